-- What the copying of records home and a medium hold between two calls.
use Rattle.std.specs.Prelude.{◌≡◌, ◌≢◌, ◌⊎◌, ℕ, ◌+◌, ◌*◌, ◌-◌, ◌≤◌, ◌<◌, ◌^◌, List, [], length}
use Rattle.std.specs.Prelude.{get_or, take, slice_index, Bool, true, false, if◌then◌else◌}
use Rattle.medium.specs.{Medium.{State, Within}, Tally.Tally, Machine.TellsCall}
use Rattle.medium.specs.declared.{medium_call.Call.Call, fault.MediumFault.MediumFault}
use Rattle.journal.specs.Naming.{IsReading, IsUnread, Learns, IsKnown, names_left}
use Rattle.journal.specs.{Places.{first_home, sectors_of, limit_of}, Record.{Entry, with_records}}
use Rattle.journal.specs.{Record.{home_of, block_of}, declared.log_format.LogFormat.LogFormat}
use Rattle.journal.specs.declared.{record.Record.Record, reader.RecordReader.RecordReader}
use Rattle.journal.specs.declared.{super_sector.Super.Super, naming_stage.NamingStage.NamingStage}
use Rattle.journal.specs.{Formats.{shape_of, IsWhole}, Reading.{data_at, record_reads_of}}
use Rattle.recovery.specs.Calls.{IsHomeInRecords, freed_at, copy_calls}
use Rattle.recovery.specs.declared.copy_step.CopyStep.{CopyStep}
use Rattle.medium.specs.declared.fault.MediumFault.TheVariants as medium
use Rattle.journal.specs.declared.naming_stage.NamingStage.TheVariants as stage

-- what is copied home by a reader: how far it is
pub record Copying : Type 0 where
  pub reader : RecordReader
  pub step : CopyStep

abbrev pub copying_of : RecordReader → CopyStep → Copying
copying_of reader step = record { reader = reader; step = step }

-- what it holds, whatever it read
pub record CanCopy (reader : RecordReader) (step : CopyStep) : Type 0 where
  pub stamps : reader.stamp + step.left < 2 ^ 63
  pub there : reader.stage ≢ stage.Missing
  pub named : reader.stage ≡ stage.Named → step.i < length reader.read.numbers.items
  pub unnamed : reader.stage ≢ stage.Named → (step.i ≡ 0) × (step.has_bytes ≡ false)

-- Of the calls that a record may take at most some are made, or spared it: reads, and writes.
abbrev pub reads_spent : LogFormat → NamingStage → ℕ → ℕ → Bool → ℕ
reads_spent format stage.Named n i has_bytes =
    record_reads_of format + (limit_of format - (n - i)) + (if has_bytes then 1 else 0)
reads_spent format at n i has_bytes = record_reads_of format - names_left at

abbrev pub writes_spent : LogFormat → NamingStage → ℕ → ℕ → ℕ
writes_spent format stage.Named n i = limit_of format - (n - i)
writes_spent format at n i = 0

-- what is left of the calls of these records
abbrev pub copies_left : RecordReader → CopyStep → Tally
copies_left reader step = record {
  reads = (record_reads_of reader.sizes.format + limit_of reader.sizes.format) * step.left
      - reads_spent reader.sizes.format reader.stage (length reader.read.numbers.items) step.i
      step.has_bytes;
  writes = limit_of reader.sizes.format * step.left
      - writes_spent reader.sizes.format reader.stage (length reader.read.numbers.items) step.i;
  flushes = 0;
}

-- the record is home, and the next one is to be read
pub record IsNextRecord (reader : RecordReader) (step : CopyStep) (next : RecordReader)
    (after : CopyStep) : Type 0 where
  pub sizes_stay : next.sizes ≡ reader.sizes
  pub stamp_is : next.stamp ≡ reader.stamp + 1
  pub unread : IsUnread (shape_of reader.sizes) next.stamp next.stage next.read
  pub left_is : after.left + 1 ≡ step.left
  pub from_first : after.i ≡ 0
  pub no_bytes : after.has_bytes ≡ false

-- the reader took a sector, and the record goes on
pub record IsTaken (reader : RecordReader) (step : CopyStep) (got : List ℕ) (next : RecordReader)
    (after : CopyStep) : Type 0 where
  pub sizes_stay : next.sizes ≡ reader.sizes
  pub stamp_stays : next.stamp ≡ reader.stamp
  pub learns : Learns (shape_of reader.sizes) reader.stamp reader.stage reader.read got next.stage
      next.read
  pub step_stays : after ≡ step

-- so; or it found that the record is not whole, which is passed over
abbrev pub IsTakenOrPassed : RecordReader → CopyStep → List ℕ → RecordReader → CopyStep → Type 0
IsTakenOrPassed reader step got next after = IsTaken reader step got next after
    ⊎ ((read : Record) × Learns (shape_of reader.sizes) reader.stamp reader.stage reader.read got
    stage.Missing read × IsNextRecord reader step next after)

-- The bytes of a block were read; or it was written, and there is one more, or it was the last.
abbrev pub IsBlockStep : Bool → RecordReader → CopyStep → RecordReader → CopyStep → Type 0
IsBlockStep false reader step next after =
    (next ≡ reader) × (after ≡ record step { has_bytes = true })
IsBlockStep true reader step next after =
    ((next ≡ reader) × (step.i + 1 < length reader.read.numbers.items)
    × (after ≡ record { left = step.left; i = step.i + 1; has_bytes = false }))
    ⊎ ((length reader.read.numbers.items ≤ step.i + 1) × IsNextRecord reader step next after)

-- the next call was made
pub record IsCopyStep (reader : RecordReader) (step : CopyStep) (got : List ℕ)
    (next : RecordReader) (after : CopyStep) : Type 0 where
  pub sizes_stay : next.sizes ≡ reader.sizes
  pub reading : IsReading reader.stage → IsTakenOrPassed reader step got next after
  pub copying : reader.stage ≡ stage.Named → IsBlockStep step.has_bytes reader step next after

-- it was refused: a block is read again
abbrev pub again : Copying → Copying
again copying = record copying { step = record copying.step { has_bytes = false } }

-- the medium when these records, from the head on, began to be copied home
pub record CopyView (M : Type 0) : Type 0 where
  pub start : M
  pub sizes : Super
  pub head : ℕ
  pub records : List (List Entry)

-- The records before this one are home, and of this one the blocks before the next. A cut may leave
-- anything where a block of the records is at home. Between its read and its write the lent sector
-- has what the log has of a block. So many records are home, and so many sectors were read that
-- name the blocks of this one.
pub record HasHome {M : Type 0} (state : M → State) (reader : RecordReader) (step : CopyStep)
    (had : List ℕ) (view : CopyView M) (home reads : ℕ) (m : M) : Type 0 where
  pub sizes_are : view.sizes ≡ reader.sizes
  pub whole : (k : ℕ) → k < length view.records → IsWhole (shape_of view.sizes)
      (state view.start).content (view.head + k) (get_or view.records k [])
  pub left_is : home + step.left ≡ length view.records
  pub stamp_is : reader.stamp ≡ view.head + home
  pub known : IsKnown (shape_of view.sizes) (state view.start).content reader.stamp reads
      reader.stage reader.read
  pub ended : step.left ≡ 0 → (reads ≡ 0) × (step.i ≡ 0) × (step.has_bytes ≡ false)
  pub copied : (k : ℕ) → k < step.i
      → (state m).content (first_home (shape_of view.sizes)
      + slice_index reader.read.numbers.items k) ≡ block_of (get_or view.records home []) k
  -- where no call was refused, the others are those of the records before
  pub others : (state m).failures ≡ (state view.start).failures → (b : ℕ)
      → ((k : ℕ) → k < step.i → slice_index reader.read.numbers.items k ≢ b)
      → (state m).content (first_home (shape_of view.sizes) + b)
      ≡ with_records (take home view.records)
      (home_of (shape_of view.sizes) (state view.start).content) b
  pub elsewhere : (x : ℕ) → ¬ IsHomeInRecords (shape_of view.sizes) (state view.start).content
      view.head (length view.records) x → (state m).content x ≡ (state view.start).content x
  pub within : Within (state m).may_leave (freed_at (IsHomeInRecords (shape_of view.sizes)
      (state view.start).content view.head (length view.records)) (state view.start).may_leave)
  pub half : step.has_bytes ≡ true
      → had ≡ (state view.start).content (data_at (shape_of view.sizes) reader.stamp step.i)
  pub failures_grow : (state view.start).failures ≤ (state m).failures
  -- and as many calls were made as it takes
  pub calls : (state m).failures ≡ (state view.start).failures → (state m).calls
      ≡ (state view.start).calls + copy_calls view.sizes.format (take home view.records)
      + (reads + 2 * step.i + (if step.has_bytes then 1 else 0))

-- so for some
pub record HoldsCopied {M : Type 0} (state : M → State) (reader : RecordReader) (step : CopyStep)
    (had : List ℕ) (view : CopyView M) (m : M) : Type 0 where
  pub home : ℕ
  pub reads : ℕ
  pub at : HasHome state reader step had view home reads m

-- the kind of the next call: once the bytes of a block were read they are written
abbrev pub copy_kind : NamingStage → Bool → MediumFault
copy_kind stage.Named true = medium.Write
copy_kind at has_bytes = medium.Read

-- it tells this call
abbrev pub TellsCopy : {M : Type 0} → (M → State) → Copying → List ℕ → Call → List ℕ → Type 0
TellsCopy {M = M} state copying had call bytes =
    TellsCall {M = M} {S = Copying} {V = CopyView M} state
    (λ s size. sectors_of (shape_of s.reader.sizes) ≤ size)
    (λ s had m view. HoldsCopied state s.reader s.step had view m)
    (λ s. first_home (shape_of s.reader.sizes)) (λ s. sectors_of (shape_of s.reader.sizes))
    (λ s. copies_left s.reader s.step) ⊥ (λ s. 0 < s.step.left)
    (λ s got t. IsCopyStep s.reader s.step got t.reader t.step)
    (λ s t. t ≡ again s) copying had call bytes
