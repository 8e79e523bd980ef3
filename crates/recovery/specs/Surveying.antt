-- What the survey of the whole records and a medium hold between two calls.
use Rattle.std.specs.Prelude.{◌≡◌, ◌≢◌, ◌⊎◌, ℕ, ◌+◌, ◌*◌, ◌-◌, ◌≤◌, ◌<◌, ◌^◌, List, [], ◌∷◌, ◌++◌}
use Rattle.std.specs.Prelude.{length, min, slice_index}
use Rattle.medium.specs.{Medium.State, Moments.IsQuiet, Tally.Tally}
use Rattle.journal.specs.Naming.{IsReading, IsUnread, Learns, IsKnown, names_left, HasStamps}
use Rattle.journal.specs.{Naming.HasNoStamps, declared.log_format.LogFormat.LogFormat}
use Rattle.journal.specs.declared.{record.Record.Record, reader.RecordReader.RecordReader}
use Rattle.journal.specs.declared.{super_sector.Super.Super, naming_stage.NamingStage.NamingStage}
use Rattle.journal.specs.{Format2.{place_bytes, format2}, Layout.slot_at, Places.Shape}
use Rattle.journal.specs.{Formats.{shape_of, HasWhole}, Reading.{HasPlaces, record_reads_of}}
use Rattle.recovery.specs.{Calls.most_reads_of, Causes.{AreTries, HasCount}}
use Rattle.journal.specs.declared.naming_stage.NamingStage.TheVariants as stage

-- what a survey holds, whatever it read: while slots are left it reads a record of one
pub record CanSurvey (reader : RecordReader) (left place counted : ℕ) : Type 0 where
  pub stamps : reader.stamp + left < 2 ^ 63 + 65
  pub room : counted + left ≤ reader.sizes.slots
  pub there : 0 < left → reader.stage ≢ stage.Missing
  pub two : 0 < left → reader.stage ≡ stage.Named → HasStamps reader.sizes.format
  pub named : 0 < left → reader.stage ≡ stage.Named → place < length reader.read.numbers.items
  pub unnamed : 0 < left → reader.stage ≢ stage.Named → place ≡ 0

-- of the reads that a record may take at most, so many are made, or spared it
abbrev pub tries_spent : LogFormat → NamingStage → ℕ → ℕ → ℕ
tries_spent format stage.Named n place = most_reads_of format - (n - place)
tries_spent format at n place = record_reads_of format - names_left at

abbrev pub surveys_left : RecordReader → ℕ → ℕ → Tally
surveys_left reader left place = record {
  reads = most_reads_of reader.sizes.format * left
      - tries_spent reader.sizes.format reader.stage (length reader.read.numbers.items) place;
  writes = 0;
  flushes = 0;
}

-- the record is whole and counted, and that of the next stamp is to be tried
pub record IsCounted (reader : RecordReader) (left : ℕ) (next : RecordReader) (less place : ℕ)
    : Type 0 where
  pub stamp_is : next.stamp ≡ reader.stamp + 1
  pub unread : IsUnread (shape_of reader.sizes) next.stamp next.stage next.read
  pub left_is : less + 1 ≡ left
  pub from_first : place ≡ 0

module _ (reader : RecordReader) (left place : ℕ) (waiting got : List ℕ) (next : RecordReader)
    (less after : ℕ) (counts : List ℕ) where
  -- the reader took a sector, and goes on or has named the record
  pub record IsNamedOn : Type 0 where
    pub stamp_stays : next.stamp ≡ reader.stamp
    pub learns : Learns (shape_of reader.sizes) reader.stamp reader.stage reader.read got
        next.stage next.read
    pub left_stays : less ≡ left
    pub place_stays : after ≡ place
    pub counts_stay : counts ≡ waiting

  -- the record is not whole: the survey ends
  pub record IsMissing : Type 0 where
    pub read : Record
    pub learns : Learns (shape_of reader.sizes) reader.stamp reader.stage reader.read got
        stage.Missing read
    pub none_left : less ≡ 0
    pub counts_stay : counts ≡ waiting

  -- the record of format 1 is whole
  pub record IsWholeOne : Type 0 where
    pub read : Record
    pub one : HasNoStamps reader.sizes.format
    pub learns : Learns (shape_of reader.sizes) reader.stamp reader.stage reader.read got
        stage.Named read
    pub counts_are : counts ≡ waiting ++ length read.numbers.items ∷ []
    pub counted : IsCounted reader left next less after

  -- one of these, once a sector was read that names blocks
  abbrev pub TakesName : Type 0
  TakesName = IsNamedOn ⊎ IsMissing ⊎ IsWholeOne

  -- a data place carries the stamp, and one more is to be read
  pub record IsPlaced : Type 0 where
    pub stamped : got ≡ place_bytes reader.stamp got
    pub more : place + 1 < length reader.read.numbers.items
    pub reader_stays : next ≡ reader
    pub left_stays : less ≡ left
    pub place_on : after ≡ place + 1
    pub counts_stay : counts ≡ waiting

  -- it was the last one
  pub record IsWholeTwo : Type 0 where
    pub stamped : got ≡ place_bytes reader.stamp got
    pub last : length reader.read.numbers.items ≤ place + 1
    pub counts_are : counts ≡ waiting ++ length reader.read.numbers.items ∷ []
    pub counted : IsCounted reader left next less after

  -- it does not: the survey ends
  pub record IsUnstamped : Type 0 where
    pub bad : ¬ (got ≡ place_bytes reader.stamp got)
    pub none_left : less ≡ 0
    pub counts_stay : counts ≡ waiting

  -- one of these, once a data place was read
  abbrev pub TakesPlace : Type 0
  TakesPlace = IsPlaced ⊎ IsUnstamped ⊎ IsWholeTwo

  -- the next call was made
  pub record IsSurveyStep : Type 0 where
    pub sizes_stay : next.sizes ≡ reader.sizes
    pub reading : IsReading reader.stage → TakesName
    pub placed : reader.stage ≡ stage.Named → TakesPlace

-- the medium when the records from this stamp on began to be tried
pub record SurveyView (M : Type 0) : Type 0 where
  pub start : M
  pub sizes : Super
  pub head : ℕ

-- The record of the next stamp is tried: so many sectors that name its blocks were read, and data
-- places that carry its stamp. So many calls were made before it.
pub record HasTriedTo (shape : Shape) (start now : State) (head : ℕ) (reader : RecordReader)
    (left place : ℕ) (waiting : List ℕ) (reads before : ℕ) : Type 0 where
  pub stamp_is : reader.stamp ≡ head + length waiting
  pub left_is : length waiting + left ≡ shape.slots
  pub known : IsKnown shape start.content reader.stamp reads reader.stage reader.read
  pub places : HasPlaces start.content (slot_at format2 shape reader.stamp) reader.stamp place
  -- where no call was refused
  pub calls : now.failures ≡ start.failures
      → AreTries shape start.content head (length waiting) start.calls before
      × (now.calls ≡ before + reads + place)

-- so for some
pub record IsTrying (shape : Shape) (start now : State) (head : ℕ) (reader : RecordReader)
    (left place : ℕ) (waiting : List ℕ) : Type 0 where
  pub reads : ℕ
  pub before : ℕ
  pub to : HasTriedTo shape start now head reader left place waiting reads before

-- the record of the next stamp is not whole, or all slots were tried
pub record HasTried (shape : Shape) (start now : State) (head : ℕ) (waiting : List ℕ) : Type 0 where
  pub ends : length waiting < shape.slots → ¬ HasWhole shape start.content (head + length waiting)
  pub calls : now.failures ≡ start.failures → AreTries shape start.content head
      (min (length waiting + 1) shape.slots) start.calls now.calls

-- Each record that was counted is whole, and has as many blocks as its count says; and nothing was
-- written.
pub record HoldsSurveyed {M : Type 0} (state : M → State) (reader : RecordReader)
    (left place : ℕ) (waiting : List ℕ) (view : SurveyView M) (m : M) : Type 0 where
  pub sizes_are : view.sizes ≡ reader.sizes
  pub quiet : IsQuiet (state view.start) (state m)
  pub few : length waiting + left ≤ view.sizes.slots
  pub each : (k : ℕ) → k < length waiting → HasCount (shape_of view.sizes)
      (state view.start).content (view.head + k) (slice_index waiting k)
  pub going : 0 < left → IsTrying (shape_of view.sizes) (state view.start) (state m) view.head
      reader left place waiting
  pub ended : left ≡ 0
      → HasTried (shape_of view.sizes) (state view.start) (state m) view.head waiting
