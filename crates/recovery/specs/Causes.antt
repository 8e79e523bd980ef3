-- What is found of an image before the first write, by how many reads, and why a start is refused.
use Rattle.std.specs.Prelude.{◌≡◌, ◌⊎◌, ℕ, ◌+◌, ◌*◌, ◌^◌, ◌<◌, ◌≤◌, min, List, length, sum}
use Rattle.std.specs.Prelude.{slice_index, map}
use Rattle.medium.specs.{Medium.{State, Image}, Moments.IsQuiet}
use Rattle.medium.specs.declared.fault.MediumFault.{MediumFault}
use Rattle.journal.specs.declared.log_format.LogFormat.TheVariants.{One, Two}
use Rattle.journal.specs.Reading.{ReadsUpToBad, IsCommitted, HasPlace, NamesBlocks, IsReadInVain}
use Rattle.journal.specs.declared.super_fault.SuperFault.TheVariants.{Magic, Version, Rest, Sizes}
use Rattle.journal.specs.{declared.log_format.LogFormat.LogFormat, Places.{Shape, slot_sectors_of}}
use Rattle.journal.specs.{Places.sectors_of, Formats.{shape_of, IsWhole}, Sectors.{IsHead, IsSuper}}
use Rattle.journal.specs.{Sectors.IsSuperFault, Format2.{descriptors_of, format2}, Layout.slot_at}
use Rattle.journal.specs.{Record.Entry, Standing.{IsCount, StandsFor, Stands}}
use Rattle.recovery.specs.{Calls.{most_reads_of, LooksAtLog}, declared.found.Found.Found}
use Rattle.recovery.specs.declared.start_fault.StartFault.{StartFault}
use Rattle.recovery.specs.declared.inspection.Inspection.{Inspection}
use Rattle.logical_blocks.specs.Blocks.{Array}
pub use Rattle.journal.specs.Reading.{IsRefusedCall, MakesReadsAlone}
use Rattle.medium.specs.declared.fault.MediumFault.TheVariants as medium
use Rattle.recovery.specs.declared.start_fault.StartFault.TheVariants as fault
use Rattle.journal.specs.Standing as image

-- the start's name for a call that the medium refused
abbrev pub start_fault_of : MediumFault → StartFault
start_fault_of medium.Read = fault.Read
start_fault_of medium.Write = fault.Write
start_fault_of medium.Flush = fault.Flush

-- Calls that wrote nothing: not one was a write, and one was a flush.
pub record WritesNothing (old new : State) : Type 0 where
  pub quiet : IsQuiet old new
  pub no_write : new.made medium.Write ≡ old.made medium.Write
  pub one_flush : new.made medium.Flush ≡ old.made medium.Flush + 1

-- Why a look is refused: the medium refused a call, or the image has this fault. A stamp for the
-- next record is not asked for.
abbrev pub IsLookCause : State → State → StartFault → Type 0
IsLookCause old new fault.Read = IsRefusedCall old new medium.Read
IsLookCause old new fault.Write = IsRefusedCall old new medium.Write
IsLookCause old new fault.Flush = IsRefusedCall old new medium.Flush
IsLookCause old new fault.BadSuper = image.HasFault old.size old.content image.BadSuper
IsLookCause old new fault.BadVersion = image.HasFault old.size old.content image.BadVersion
IsLookCause old new fault.BadSize = image.HasFault old.size old.content image.BadSize
IsLookCause old new fault.BadHead = image.HasFault old.size old.content image.BadHead
IsLookCause old new fault = ⊥

-- Why a start by calls such as these is refused: the medium refused a call of the kind that the
-- fault names, or the image has this fault, and the calls were such.
abbrev pub IsCauseBy : (State → State → Type 0) → State → State → StartFault → Type 0
IsCauseBy Calls old new fault.NoMemory = ⊥
IsCauseBy Calls old new fault.Read = IsLookCause old new fault.Read
IsCauseBy Calls old new fault.Write = IsLookCause old new fault.Write
IsCauseBy Calls old new fault.Flush = IsLookCause old new fault.Flush
IsCauseBy Calls old new fault.StampsUsedUp =
    image.HasNoStampLeft old.size old.content × Calls old new
IsCauseBy Calls old new fault.LogTooSmall = ⊥
IsCauseBy Calls old new fault = IsLookCause old new fault × Calls old new

-- why a recovery is refused: by the medium, or by the image, and then nothing was written
abbrev pub IsCause : State → State → StartFault → Type 0
IsCause old new fault = IsCauseBy WritesNothing old new fault

-- The image has a good super of format 1 and a good head, but its log has fewer slots than these.
pub record HasFewSlots (least size : ℕ) (content : Image) : Type 0 where
  pub shape : Shape
  pub has : image.HasShape size shape content
  pub head : ℕ
  pub head_is : IsHead head (content 1)
  pub one : shape.format ≡ One
  pub few : shape.slots < least

-- Why a start is refused that asks for `least` slots of a log of format 1. They are counted before
-- it is found that no stamp is left.
abbrev pub IsRefusalBy : ℕ → (State → State → Type 0) → State → State → StartFault → Type 0
IsRefusalBy least Calls old new fault.StampsUsedUp = (¬ HasFewSlots least old.size old.content)
    × image.HasNoStampLeft old.size old.content × Calls old new
IsRefusalBy least Calls old new fault.LogTooSmall = HasFewSlots least old.size old.content
    × Calls old new
IsRefusalBy least Calls old new fault = IsCauseBy Calls old new fault

-- the medium refused a call
abbrev pub IsDeviceFault : StartFault → Type 0
IsDeviceFault fault = (kind : MediumFault) × (fault ≡ start_fault_of kind)

-- of the record of a stamp in the slot of format 2 that begins at this sector
module _ (image : Image) (at stamp : ℕ) where
  -- How many sectors are read in all: the commit, and where it is there, descriptors up to the
  -- first bad one; or all of them, where they name no such blocks; or all of them, and data places
  -- up to the first bad one.
  abbrev pub IsReadInSlot : ℕ → ℕ → Type 0
  IsReadInSlot blocks reads =
      (((count : ℕ) → ¬ IsCommitted image at stamp count) × (reads ≡ 1))
      ⊎ ((count : ℕ) × IsCommitted image at stamp count × (behind : ℕ)
      × (IsReadInVain image at stamp blocks count behind
      ⊎ (NamesBlocks image at stamp blocks count × (places : ℕ)
      × ReadsUpToBad (HasPlace image at stamp) count places
      × (behind ≡ descriptors_of count + places))) × (reads ≡ 1 + behind))

  -- This many sectors, and no other number, are read to tell whether the record is whole.
  pub record IsTryTwo (blocks reads : ℕ) : Type 0 where
    pub is : IsReadInSlot blocks reads
    pub only : (other : ℕ) → IsReadInSlot blocks other → other ≡ reads

-- By the try of a stamp one count of calls becomes another: by two reads in format 1.
abbrev pub IsTryOf : LogFormat → Shape → Image → ℕ → ℕ → ℕ → Type 0
IsTryOf One shape image stamp before after = after ≡ before + 2
IsTryOf Two shape image stamp before after =
    (reads : ℕ) × IsTryTwo image (slot_at format2 shape stamp) stamp shape.blocks reads
    × (after ≡ before + reads)

-- so by tries of this many stamps from the first on, by a number of reads for each: by two reads
-- each in format 1
abbrev pub AreTriesOf : LogFormat → Shape → Image → ℕ → ℕ → ℕ → ℕ → Type 0
AreTriesOf One shape image first tries before after = after ≡ before + 2 * tries
AreTriesOf Two shape image first tries before after =
    (reads : List ℕ) × (length reads ≡ tries)
    × ((j : ℕ) → j < tries → IsTryTwo image (slot_at format2 shape (first + j)) (first + j)
    shape.blocks (slice_index reads j)) × (after ≡ before + sum reads)

-- the image is of this shape
abbrev pub AreTries : Shape → Image → ℕ → ℕ → ℕ → ℕ → Type 0
AreTries shape image first tries before after =
    AreTriesOf shape.format shape image first tries before after

-- the record of this stamp is whole, and has count blocks
abbrev pub HasCount : Shape → Image → ℕ → ℕ → Type 0
HasCount shape image stamp count =
    (entries : List Entry) × IsWhole shape image stamp entries × (count ≡ length entries)

-- As many records as there are counts are whole from the head on, without a gap, and at most as
-- many as there are slots; and each has as many blocks as its count says.
pub record AreCounts (shape : Shape) (image : Image) (head : ℕ) (counts : List ℕ) : Type 0 where
  pub is : IsCount shape image head (length counts)
  pub each : (j : ℕ) → j < length counts → HasCount shape image (head + j) (slice_index counts j)

-- A survey of a medium of `size` sectors wants at least this many slots in a log of format 1, and
-- found this: the image has none of the faults. It read the super, the head and, for each stamp
-- that it tried, what shows whether its record is whole.
pub record IsSurvey (least size : ℕ) (content : Image) (before after : ℕ) (found : Found)
    : Type 0 where
  pub shape : image.HasShape size (shape_of found.sizes) content
  pub head : IsHead found.head (content 1)
  pub count : IsCount (shape_of found.sizes) content found.head found.count
  pub stamp_left : found.head + found.count + 1 < 2 ^ 63
  pub room : ¬ HasFewSlots least size content
  pub exact : AreTries (shape_of found.sizes) content found.head
      (min (found.count + 1) found.sizes.slots) (before + 2) after

-- The answer is what the contents stand for: their sizes, their head, and of each record that waits
-- there, in order of the stamps, how many blocks it has.
pub record IsInspected (old : State) (answer : Inspection) : Type 0 where
  pub array : Array
  pub next : ℕ
  pub stood : StandsFor old.size (shape_of answer.sizes) old.content array next
  pub head_is : answer.head ≡ stood.head
  pub counts_are : answer.waiting.items ≡ map (λ entries. length entries) stood.records

-- A look only reads: the super, the head and, for each of 64 slots at most, all of its sectors and
-- one of them again. Whatever the image, each read names a sector of its log.
pub record OnlyLooks (old new : State) : Type 0 where
  pub quiet : IsQuiet old new
  pub reads : MakesReadsAlone old new
  pub calls : new.calls ≤ old.calls + 2 + (slot_sectors_of Two + 1) * 64
  pub looks : LooksAtLog old new

-- A survey only looks, and where the image has a super, at most at its slots.
pub record SurveysAtMost (old new : State) : Type 0 where
  pub only : OnlyLooks old new
  pub most : (shape : Shape) → image.HasShape old.size shape old.content
      → new.calls ≤ old.calls + 2 + most_reads_of shape.format * shape.slots

-- what is wrong with a super on a medium of `size` sectors
abbrev pub IsSuperCause : ℕ → List ℕ → StartFault → Type 0
IsSuperCause size sector fault.BadSuper = IsSuperFault Magic sector ⊎ IsSuperFault Rest sector
IsSuperCause size sector fault.BadVersion = IsSuperFault Version sector
IsSuperCause size sector fault.BadSize = IsSuperFault Sizes sector
    ⊎ ((shape : Shape) × IsSuper shape sector × (size < sectors_of shape))
IsSuperCause size sector fault = ⊥

-- Contents that stand for something are refused by the device alone.
pub record IsLookRefusal (old new : State) (fault : StartFault) : Type 0 where
  pub cause : IsLookCause old new fault
  pub served : Stands old.size old.content → IsDeviceFault fault
