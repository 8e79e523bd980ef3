-- What is known of a record while the sectors that name its blocks are read, one by one.
use Rattle.std.specs.Prelude.{◌≡◌, ◌⊎◌, ℕ, ◌+◌, ◌*◌, ◌-◌, ◌%◌, ◌<◌, ◌≤◌, List, [], length, All}
use Rattle.std.specs.Prelude.{take, Option, Some, None, IfSome, IsSomeAnd}
use Rattle.medium.specs.Medium.{Image}
use Rattle.journal.specs.declared.log_format.LogFormat.{LogFormat, TheVariants.{One, Two}}
use Rattle.journal.specs.declared.{record.Record.Record, naming_stage.NamingStage.NamingStage}
use Rattle.journal.specs.{Places.{Shape, limit_of, first_home}, Sectors.{IsRising, IsDescriptor}}
use Rattle.journal.specs.{Record.{Entry, numbers_of}, Format2.{descriptors_of, firsts_of}}
use Rattle.journal.specs.{Format2.{entries_at, place_of, commit_place}, Formats.{IsWhole, HasWhole}}
use Rattle.journal.specs.Reading.{IsCommitted, HasDescriptor, AreStamped, IsRead, IsReadFor}
use Rattle.journal.specs.Reading.{record_reads_of}
use Rattle.journal.specs.declared.naming_stage.NamingStage.TheVariants as stage

-- the block numbers of a record in a log of this shape
pub record NamesSome (shape : Shape) (numbers : List ℕ) : Type 0 where
  pub some : 1 ≤ length numbers
  pub few : length numbers ≤ limit_of shape.format
  pub rising : IsRising numbers
  pub inside : All (λ b. b < shape.blocks) numbers

-- These bytes are the descriptor of format 1 of the record of a stamp, and it names these blocks;
-- or they are none, and no block is named.
pub record IsDescribed (stamp : ℕ) (read : Record) (bytes : List ℕ) : Type 0 where
  pub no_firsts : read.firsts.items ≡ []
  pub either : IsDescriptor stamp read.numbers.items bytes
      ⊎ ((read.numbers.items ≡ []) × ((numbers : List ℕ) → ¬ IsDescriptor stamp numbers bytes))

-- In the slot of format 2 that begins at this sector there are the commit of the record of a stamp,
-- with this count, and the descriptors before this one, which is not the last; and this was read of
-- them.
pub record AreNamedTo (image : Image) (at stamp count index : ℕ) (read : Record) : Type 0 where
  pub committed : IsCommitted image at stamp count
  pub there : (j : ℕ) → j < index → HasDescriptor image at stamp count j
  pub numbers_are : read.numbers.items ≡ numbers_of (take (30 * index) (entries_at image at count))
  pub firsts_are : read.firsts.items ≡ firsts_of (take (30 * index) (entries_at image at count))

-- What is found by this many reads of the record of a stamp. Where it is whole, that is what the
-- record says before its data places; and where these carry the stamp too, it is whole.
pub record IsFound (shape : Shape) (image : Image) (stamp reads : ℕ) (found : Option Record)
    : Type 0 where
  pub some : IfSome found (λ read. ((x : ℕ) → x < first_home shape → length (image x) ≡ 512)
      → AreStamped shape.format shape image stamp (length read.numbers.items)
      → HasWhole shape image stamp)
  pub all : (entries : List Entry) → IsWhole shape image stamp entries
      → IsSomeAnd found (IsRead shape image stamp entries)
  pub exact : IsReadFor shape.format shape image stamp found reads

-- the data places of a log of this format carry the stamps of their records, or none
abbrev pub HasStamps : LogFormat → Type 0
HasStamps format = format ≡ Two

abbrev pub HasNoStamps : LogFormat → Type 0
HasNoStamps format = format ≡ One

-- the reading of a record begins with this
abbrev pub IsFirstStage : LogFormat → NamingStage → Type 0
IsFirstStage One at = at ≡ stage.Descriptor
IsFirstStage Two at = at ≡ stage.Commit2

-- a sector is to be read
abbrev pub IsReading : NamingStage → Type 0
IsReading stage.Named = ⊥
IsReading stage.Missing = ⊥
IsReading _ = Unit {0}

-- it is this one
abbrev pub naming_place : Shape → ℕ → NamingStage → ℕ
naming_place shape stamp stage.Descriptor = 2 + 50 * (stamp % shape.slots)
naming_place shape stamp stage.Commit = 2 + 50 * (stamp % shape.slots) + 49
naming_place shape stamp stage.Commit2 = commit_place (stamp % shape.slots)
naming_place shape stamp (stage.Descriptor2 count index) = place_of (stamp % shape.slots) + index
naming_place shape stamp _ = 0

-- These tell whether the record of a stamp is there at all: descriptor and commit in format 1, and
-- in format 2 the commit.
abbrev pub IsToldAt : LogFormat → Shape → ℕ → ℕ → Type 0
IsToldAt One shape stamp s = (s ≡ naming_place shape stamp stage.Descriptor)
    ⊎ (s ≡ naming_place shape stamp stage.Commit)
IsToldAt Two shape stamp s = s ≡ naming_place shape stamp stage.Commit2

-- how many are left at most
abbrev pub names_left : NamingStage → ℕ
names_left stage.Descriptor = 2
names_left stage.Commit = 1
names_left stage.Commit2 = 9
names_left (stage.Descriptor2 count index) = 8 - index
names_left _ = 0

-- the descriptor of format 1 was read
pub record IsBehindOne (shape : Shape) (read : Record) : Type 0 where
  pub one : shape.format ≡ One
  pub rising : IsRising read.numbers.items
  pub few : length read.numbers.items ≤ 48

-- the commit of format 2 was read, and the descriptors before this one
pub record IsBehindTwo (shape : Shape) (count index : ℕ) (read : Record) : Type 0 where
  pub two : shape.format ≡ Two
  pub few : count ≤ 240
  pub more : index < descriptors_of count
  pub numbers_long : length read.numbers.items ≡ 30 * index
  pub firsts_long : length read.firsts.items ≡ 30 * index

-- what a reader holds, whatever it read
pub record IsReader (shape : Shape) (at : NamingStage) (read : Record) : Type 0 where
  pub one : at ≡ stage.Descriptor → shape.format ≡ One
  pub behind_one : at ≡ stage.Commit → IsBehindOne shape read
  pub two : at ≡ stage.Commit2 → shape.format ≡ Two
  pub behind_two : (count index : ℕ) → at ≡ stage.Descriptor2 count index
      → IsBehindTwo shape count index read
  pub named : at ≡ stage.Named → NamesSome shape read.numbers.items

-- what this many sectors that were read tell of the record of a stamp
abbrev pub IsKnown : Shape → Image → ℕ → ℕ → NamingStage → Record → Type 0
IsKnown shape image stamp reads stage.Descriptor read = reads ≡ 0
IsKnown shape image stamp reads stage.Commit read = (reads ≡ 1)
    × IsDescribed stamp read (image (2 + 50 * (stamp % shape.slots)))
IsKnown shape image stamp reads stage.Commit2 read = reads ≡ 0
IsKnown shape image stamp reads (stage.Descriptor2 count index) read = (reads ≡ 1 + index)
    × AreNamedTo image (place_of (stamp % shape.slots)) stamp count index read
IsKnown shape image stamp reads stage.Named read = IsFound shape image stamp reads (Some read)
IsKnown shape image stamp reads stage.Missing read = IsFound shape image stamp reads None

-- nothing was read yet
pub record IsUnread (shape : Shape) (stamp : ℕ) (at : NamingStage) (read : Record) : Type 0 where
  pub reading : IsReading at
  pub knows : (image : Image) → IsKnown shape image stamp 0 at read
  pub left : names_left at ≡ record_reads_of shape.format

-- The sector that was asked for had these bytes: it tells one sector more of any image.
pub record Learns (shape : Shape) (stamp : ℕ) (at : NamingStage) (before : Record)
    (bytes : List ℕ) (next : NamingStage) (after : Record) : Type 0 where
  pub knows : (image : Image) (reads : ℕ) → bytes ≡ image (naming_place shape stamp at)
      → IsKnown shape image stamp reads at before → IsKnown shape image stamp (reads + 1) next after
  pub nearer : names_left next + 1 ≤ names_left at
