-- What is read of a record, and by how many reads.
use Rattle.std.specs.Prelude.{◌≡◌, ◌≢◌, ℕ, ◌+◌, ◌<◌, ◌⊎◌, ◌*◌, List, length, take, drop, All, []}
use Rattle.std.specs.Prelude.{◌++◌, get_or, Option, Some, None}
use Rattle.medium.specs.{Medium.{State, Image}, declared.fault.MediumFault.MediumFault}
use Rattle.journal.specs.declared.{record.Record.Record, log_format.LogFormat.LogFormat}
use Rattle.journal.specs.{declared.log_format.LogFormat.TheVariants.{One, Two}, Record.numbers_of}
use Rattle.journal.specs.{Record.{Entry, block_of}, Sectors.IsRising, Format2.descriptors_of}
use Rattle.journal.specs.Format2.{place_bytes, IsDescriptorTwo, IsCommitTwo, format2}
use Rattle.journal.specs.{Places.{Shape, first_data_of}, Layout.slot_at, Formats.layout_of}
use Rattle.medium.specs.declared.fault.MediumFault.TheVariants as medium

-- a call of this kind was refused, and counted as one and as one of its kind
pub record IsRefusedCall (old new : State) (kind : MediumFault) : Type 0 where
  pub grew : old.failures < new.failures
  pub kind_grew : old.refused kind < new.refused kind

-- no call but reads was made
abbrev pub MakesReadsAlone : State → State → Type 0
MakesReadsAlone old new = (kind : MediumFault) → kind ≢ medium.Read → new.made kind ≡ old.made kind

-- ---- what the sectors of a slot of format 2 say, and how many are read to find the record in it

-- one of `many` is bad, and as many are read as go up to the first bad one, and with it
pub record StopsAtBad (good : ℕ → Type 0) (many reads : ℕ) : Type 0 where
  pub first : ℕ
  pub inside : first < many
  pub before : (i : ℕ) → i < first → good i
  pub bad : ¬ good first
  pub reads_are : reads ≡ first + 1

-- as many are read as go up to the first bad one; or all, where all are good
abbrev pub ReadsUpToBad : (ℕ → Type 0) → ℕ → ℕ → Type 0
ReadsUpToBad good many reads =
    (((i : ℕ) → i < many → good i) × (reads ≡ many)) ⊎ StopsAtBad good many reads

-- of the record of a stamp in the slot of format 2 that begins at this sector
module _ (image : Image) (at stamp : ℕ) where
  -- the last sector is a commit of count blocks
  abbrev pub IsCommitted : ℕ → Type 0
  IsCommitted count = IsCommitTwo stamp count (image (at + 248))

  -- its descriptor j is there, if it has count blocks
  abbrev pub HasDescriptor : ℕ → ℕ → Type 0
  HasDescriptor count j = (numbers : List ℕ) × (firsts : List (List ℕ))
      × IsDescriptorTwo stamp count j numbers firsts (image (at + j))

  -- the descriptors of a record with these block numbers are there
  abbrev pub HasDescriptors : List ℕ → Type 0
  HasDescriptors numbers = (j : ℕ) → j < descriptors_of (length numbers) → (firsts : List (List ℕ))
      × IsDescriptorTwo stamp (length numbers) j (take 30 (drop (30 * j) numbers)) firsts
      (image (at + j))

  -- the i-th data place begins with the stamp
  abbrev pub HasPlace : ℕ → Type 0
  HasPlace i = image (at + (8 + i)) ≡ place_bytes stamp (image (at + (8 + i)))

  -- and so do those of count blocks
  abbrev pub HasPlaces : ℕ → Type 0
  HasPlaces count = (i : ℕ) → i < count → HasPlace i

  -- all descriptors are there, and what they name are count blocks of an array of this length
  abbrev pub NamesBlocks : ℕ → ℕ → Type 0
  NamesBlocks blocks count = (numbers : List ℕ) × (length numbers ≡ count)
      × HasDescriptors numbers × IsRising numbers × All (λ b. b < blocks) numbers

  -- How many sectors are read behind a commit of count blocks where they are not named:
  -- descriptors up to the first bad one; or all of them, where they name no such blocks.
  abbrev pub IsReadInVain : ℕ → ℕ → ℕ → Type 0
  IsReadInVain blocks count reads =
      StopsAtBad (HasDescriptor count) (descriptors_of count) reads
      ⊎ (((j : ℕ) → j < descriptors_of count → HasDescriptor count j)
      × (¬ NamesBlocks blocks count) × (reads ≡ descriptors_of count))

-- ---- what is read of a record, and by how many reads

-- how many sectors are read at most for the block numbers of a record
abbrev pub record_reads_of : LogFormat → ℕ
record_reads_of One = 2
record_reads_of Two = 9

-- the data places of count blocks of the record of this stamp carry it, in format 2
abbrev pub AreStamped : LogFormat → Shape → Image → ℕ → ℕ → Type 0
AreStamped One shape image stamp count = Unit {0}
AreStamped Two shape image stamp count = HasPlaces image (slot_at format2 shape stamp) stamp count

-- the data place of the i-th block of the record of this stamp
abbrev pub data_at : Shape → ℕ → ℕ → ℕ
data_at shape stamp i =
    slot_at (layout_of shape.format) shape stamp + first_data_of shape.format + i

-- What was read says of a record with these blocks what stands before its data places: their
-- numbers, and the first bytes of each that its data place does not have.
pub record IsRead (shape : Shape) (image : Image) (stamp : ℕ) (entries : List Entry)
    (read : Record) : Type 0 where
  pub numbers_are : read.numbers.items ≡ numbers_of entries
  pub blocks_are : (i : ℕ) → i < length entries → get_or read.firsts.items i []
      ++ drop (length (get_or read.firsts.items i [])) (image (data_at shape stamp i))
      ≡ block_of entries i

-- How many sectors are read to find this: two in format 1; in format 2 the commit, and where it is
-- there, the descriptors.
abbrev pub IsReadFor : LogFormat → Shape → Image → ℕ → Option Record → ℕ → Type 0
IsReadFor One shape image stamp found reads = reads ≡ 2
IsReadFor Two shape image stamp None reads =
    (((count : ℕ) → ¬ IsCommitted image (slot_at format2 shape stamp) stamp count) × (reads ≡ 1))
    ⊎ ((count : ℕ) × IsCommitted image (slot_at format2 shape stamp) stamp count × (behind : ℕ)
    × IsReadInVain image (slot_at format2 shape stamp) stamp shape.blocks count behind
    × (reads ≡ 1 + behind))
IsReadFor Two shape image stamp (Some read) reads =
    IsCommitted image (slot_at format2 shape stamp) stamp (length read.numbers.items)
    × NamesBlocks image (slot_at format2 shape stamp) stamp shape.blocks (length read.numbers.items)
    × (reads ≡ 1 + descriptors_of (length read.numbers.items))

-- How many data places are read to find whether count carry the stamp: those up to the first that
-- does not; none in format 1.
abbrev pub IsReadForStamps : LogFormat → Shape → Image → ℕ → ℕ → ℕ → Type 0
IsReadForStamps One shape image stamp count reads = reads ≡ 0
IsReadForStamps Two shape image stamp count reads =
    ReadsUpToBad (HasPlace image (slot_at format2 shape stamp) stamp) count reads
