-- What recovery and a migration to format 2 answer, and what they leave.
use Rattle.std.specs.Prelude.{◌≡◌, ◌≢◌, ◌⊎◌, ℕ, ◌+◌, ◌-◌, ◌*◌, ◌^◌, ◌<◌, ◌≤◌, length, min}
use Rattle.std.specs.Prelude.{replicate, Bool, true, false}
use Rattle.medium.specs.{Moments.{EachCut, IsFlushed, LeavesOnly, SparesFrom}, Medium.State}
use Rattle.medium.specs.{Medium.{Image, CutLeaves, IsSound, Stays, Within}, Sent.SendsUpTo}
use Rattle.logical_blocks.specs.Blocks.{Array}
use Rattle.journal.specs.{declared.log_format.LogFormat.TheVariants.{Two, One}, Places.Shape}
use Rattle.journal.specs.Places.{first_home, sectors_of, slot_sectors_of, migrated, limit_of}
use Rattle.journal.specs.{declared.log_format.LogFormat.LogFormat, Formats.{shape_of, HasWhole}}
use Rattle.journal.specs.{Sectors.{IsSuper, IsHead}, Standing.{StandsFor, IsOurs, HasShape}}
use Rattle.recovery.specs.Calls.{copy_calls, most_start_of, most_start_sends, LooksAtLog, AreMade}
use Rattle.recovery.specs.{Calls.{zeros_and_head, LooksAtFresh}, Causes.{HasFewSlots, IsCause}}
use Rattle.recovery.specs.Causes.{IsDeviceFault, WritesNothing, IsRefusalBy, AreTries}
use Rattle.recovery.specs.declared.recovered.Recovered.{Recovered}
use Rattle.recovery.specs.declared.start_fault.StartFault.{StartFault}
pub use Rattle.recovery.specs.Calls.{IsFresh}

-- The answer is what the contents stood for, with a stamp left for the next record. They are
-- flushed, with the head at that stamp and the array at home, and every other sector is as it was.
-- The calls are a flush, two reads, those for each stamp that is tried, those of the copies, and a
-- flush, a write and a flush.
pub record IsRecoveredFrom (old new : State) (answer : Recovered) : Type 0 where
  pub array : Array
  pub stood : StandsFor old.size (shape_of answer.sizes) old.content array answer.next
  pub stamp_left : answer.next < 2 ^ 63
  pub flushed : IsFlushed new
  pub head : IsHead answer.next (new.content 1)
  pub home : (b : ℕ) → b < answer.sizes.blocks
      → new.content (first_home (shape_of answer.sizes) + b) ≡ array b
  pub elsewhere : (x : ℕ) → x ≢ 1
      → (x < first_home (shape_of answer.sizes)) ⊎ (sectors_of (shape_of answer.sizes) ≤ x)
      → new.content x ≡ old.content x
  pub calls : AreTries (shape_of answer.sizes) old.content stood.head
      (min (length stood.records + 1) answer.sizes.slots)
      (old.calls + 6 + copy_calls answer.sizes.format stood.records) new.calls

-- An image with these sizes fits into so many sectors, and this is a stamp of a record.
pub record FitsRecovered (sectors : ℕ) (answer : Recovered) : Type 0 where
  pub fits : sectors_of (shape_of answer.sizes) ≤ sectors
  pub least : 1 ≤ answer.next
  pub stamp_left : answer.next < 2 ^ 63

-- A medium was recovered with this answer, and `now` has all that the recovery left: its contents,
-- and no other that a cut may leave. Where the contents of before were ours, nothing in any image
-- carries the next stamp or a later one.
pub record LeftByRecovery (before after : State) (answer : Recovered) (now : State)
    : Type 0 where
  pub recovered : IsRecoveredFrom before after answer
  pub fresh : (shape : Shape) (array : Array) (next : ℕ)
      → IsOurs before.size shape before.content array next
      → EachCut (IsFresh shape array next) after
  pub sound : IsSound before
  pub size_stays : now.size ≡ before.size
  pub content_stays : Stays after.content now.content
  pub sets : Within now.may_leave after.may_leave

-- the image is ours
abbrev pub IsOursForSome : ℕ → Image → Type 0
IsOursForSome size image = (shape : Shape) × (array : Array) × (next : ℕ)
    × IsOurs size shape image array next

-- the image is ours for this array, with this next stamp or the one behind it
abbrev pub IsOursWithNext : ℕ → Shape → Array → ℕ → Image → Type 0
IsOursWithNext size shape array next image =
    IsOurs size shape image array next ⊎ IsOurs size shape image array (next + 1)

-- An image allowed before stood for an array. The image is this of that one's size, shape, array
-- and next stamp.
pub record StandsForSome (Is : ℕ → Shape → Array → ℕ → Image → Type 0) (old : State)
    (image : Image) : Type 0 where
  pub before : Image
  pub allowed : CutLeaves old.may_leave before
  pub shape : Shape
  pub array : Array
  pub next : ℕ
  pub was : IsOurs old.size shape before array next
  pub is : Is old.size shape array next image

-- the image is ours for an array that an image allowed before stood for, with its next stamp or the
-- one behind it
abbrev pub StandsForOneOf : State → Image → Type 0
StandsForOneOf old image = StandsForSome IsOursWithNext old image

-- The sectors behind the image are spared, and every sector where the contents stand for nothing
-- with a stamp left.
pub record SparesTheRest (old new : State) : Type 0 where
  pub behind : (shape : Shape) → HasShape old.size shape old.content
      → SparesFrom (sectors_of shape) old new
  pub unserved : ((shape : Shape) (array : Array) (next : ℕ)
      → StandsFor old.size shape old.content array next → 2 ^ 63 ≤ next) → SparesFrom 0 old new

-- no record waits: none of the head's stamp is whole
abbrev pub HasNoneWaiting : Shape → Image → Type 0
HasNoneWaiting shape image = (head : ℕ) → IsHead head (image 1) → ¬ HasWhole shape image head

-- How many writes and flushes a start makes at most, good or refused: where the image has a super,
-- by its format and its slots; where no record waits, as many less as blocks may wait; where it has
-- none, a flush; and whatever the image.
pub record StartSends (sends : LogFormat → ℕ → ℕ) (old new : State) : Type 0 where
  pub most : (shape : Shape) → HasShape old.size shape old.content
      → SendsUpTo (sends shape.format shape.slots) old new
  pub clean : (shape : Shape) → HasShape old.size shape old.content
      → HasNoneWaiting shape old.content → SendsUpTo
      (sends shape.format shape.slots - limit_of shape.format * shape.slots) old new
  pub none : ((shape : Shape) → ¬ HasShape old.size shape old.content) → SendsUpTo 1 old new
  pub any : SendsUpTo (most_start_sends Two 64) old new

-- so a recovery
abbrev pub RecoverySends : State → State → Type 0
RecoverySends old new = StartSends most_start_sends old new

-- What a start leaves at each moment of it, good or refused, that wants at least this many slots in
-- a log of format 1, and how many calls it makes: where the image has a super, by its format and
-- its slots. The images are this of the size, the shape, the array and the next stamp.
pub record StartMoments (Is : ℕ → Shape → Array → ℕ → Image → Type 0)
    (most_calls most_sends : LogFormat → ℕ → ℕ) (least : ℕ) (old new : State) : Type 0 where
  -- Where every image is ours, a cut at any moment leaves one that is so for one of the arrays.
  pub cuts : EachCut (IsOursForSome old.size) old → LeavesOnly (StandsForSome Is old) old new
  -- The first call flushes, and others follow only where it was good. From then on a cut leaves the
  -- array of the contents.
  pub after_flush : (shape : Shape) (array : Array) (next : ℕ)
      → IsOurs old.size shape old.content array next → old.calls + 2 ≤ new.calls → (image : Image)
      → new.left_since (old.calls + 1) image → Is old.size shape array next image
  pub spares : SparesTheRest old new
  -- nothing is written where there are fewer slots
  pub small : HasFewSlots least old.size old.content → SparesFrom 0 old new
  -- Whatever the image: no count falls, and the size stays.
  pub moments : LeavesOnly (λ _. Unit {0}) old new
  pub calls : new.calls ≤ old.calls + 6 + 738 * 64
  pub most : (shape : Shape) → HasShape old.size shape old.content
      → new.calls ≤ old.calls + 6 + most_calls shape.format shape.slots
  pub sends : StartSends most_sends old new
  -- Whatever the image: a sector that is no part of the log is not read.
  pub looks : LooksAtLog old new

-- So a recovery that wants this many: each image is ours with the next stamp or the one behind it.
abbrev pub LeavesAtLeast : ℕ → State → State → Type 0
LeavesAtLeast least old new =
    StartMoments IsOursWithNext
    (λ format slots. most_start_of format * slots) most_start_sends least old new

-- so one that takes any log
abbrev pub RecoveryLeaves : State → State → Type 0
RecoveryLeaves old new = LeavesAtLeast 0 old new

-- What a recovery leaves and reads, good or refused: where no record waits, it reads the super, the
-- head, and of the slot of the next record what tells that it is not there.
pub record RecoveryMoments (old new : State) : Type 0 where
  pub any : RecoveryLeaves old new
  pub open any use *
  pub fresh_looks : LooksAtFresh old new

-- Why a recovery is refused. Contents that stand for something with a stamp left are refused by the
-- device alone.
pub record IsRecoveryRefusal (old new : State) (fault : StartFault) : Type 0 where
  pub cause : IsCause old new fault
  pub served : (shape : Shape) (array : Array) (next : ℕ)
      → StandsFor old.size shape old.content array next → next < 2 ^ 63 → IsDeviceFault fault

-- a log of format 1 in which a slot of format 2 has room
pub record CanMigrate (shape : Shape) : Type 0 where
  pub one : shape.format ≡ One
  pub room : 5 ≤ shape.slots

-- what was recovered can become format 2: nothing but it is left, behind the head that it tells
pub record CanBecomeTwo (found : Recovered) (m : State) : Type 0 where
  pub can : CanMigrate (shape_of found.sizes)
  pub fits : sectors_of (shape_of found.sizes) ≤ m.size
  pub flushed : IsFlushed m
  pub head : IsHead found.next (m.content 1)

-- The one image that a cut may leave has the super of format 2, this head, and zeros from there up
-- to home.
pub record IsMadeTwo (shape : Shape) (next : ℕ) (m : State) : Type 0 where
  pub flushed : IsFlushed m
  pub super : IsSuper (migrated shape) (m.content 0)
  pub head : IsHead next (m.content 1)
  pub zeros : (x : ℕ) → 2 ≤ x → x < first_home shape → m.content x ≡ replicate 512 0

-- where no record waited for an array, none waits in the image, which is of the format that it had
-- or of format 2
abbrev pub StaysFresh : Shape → ℕ → Image → Image → Type 0
StaysFresh shape next before image = (array : Array) → IsFresh shape array next before
    → IsFresh shape array next image ⊎ IsFresh (migrated shape) array next image

-- The answer is what contents of format 1 stood for, with a stamp left for the next record, and the
-- sizes of format 2. They have become format 2, with the head at that stamp and the array at home,
-- which is ours, and every sector behind the image is as it was. The calls are those of a recovery,
-- and then a write for each sector of the log, a flush, the head, a flush, the super and a flush.
pub record IsMigratedFrom (old new : State) (answer : Recovered) : Type 0 where
  pub shape : Shape
  pub could : CanMigrate shape
  pub sizes_are : shape_of answer.sizes ≡ migrated shape
  pub array : Array
  pub stood : StandsFor old.size shape old.content array answer.next
  pub stamp_left : answer.next < 2 ^ 63
  pub made : IsMadeTwo shape answer.next new
  pub home : (b : ℕ) → b < shape.blocks → new.content (first_home shape + b) ≡ array b
  pub behind : (x : ℕ) → sectors_of shape ≤ x → new.content x ≡ old.content x
  pub ours : IsOurs old.size (migrated shape) new.content array (answer.next + 1)
  pub calls : new.calls ≡ old.calls + 6 + copy_calls One stood.records
      + slot_sectors_of One * shape.slots + 5 + 2 * min (length stood.records + 1) shape.slots

-- by whether there was format 1: it has become format 2, or there was format 2 and it is recovered
abbrev pub IsMigrationBy : Bool → State → State → Recovered → Type 0
IsMigrationBy true old new answer = IsMigratedFrom old new answer
IsMigrationBy false old new answer = (answer.sizes.format ≡ Two) × IsRecoveredFrom old new answer

-- Behind a recovery an image of format 1 gets, in this order, zeros in each sector of its log, a
-- flush, the head, a flush, the super and a flush.
abbrev pub IsInOrder : {M : Type 0} → (M → State) → Bool → M → M → Type 0
IsInOrder {M = M} state true old new = (mid : M) × (found : Recovered)
    × IsRecoveredFrom (state old) (state mid) found
    × AreMade state (zeros_and_head 2 true found.sizes.home) mid new
IsInOrder state false old new = Unit {0}

-- A good migration: its calls come in order, and where the contents were ours, nothing in any image
-- carries the next stamp or a later one.
pub record EndsMigration {M : Type 0} (state : M → State) (was_one : Bool) (old new : M)
    (answer : Recovered) : Type 0 where
  pub order : IsInOrder state was_one old new
  pub fresh : (shape : Shape) (array : Array) (next : ℕ)
      → IsOurs (state old).size shape (state old).content array next
      → EachCut (IsFresh (shape_of answer.sizes) array next) (state new)

-- why a migration is refused: by the medium, or by the image, and then nothing was written
abbrev pub IsMigrationCause : State → State → StartFault → Type 0
IsMigrationCause old new fault = IsRefusalBy 5 WritesNothing old new fault

-- Why a migration is refused. Contents that stand for something, with a stamp left and a log in
-- which a slot of format 2 has room, are refused by the device alone.
pub record IsMigrationRefusal (old new : State) (fault : StartFault) : Type 0 where
  pub cause : IsMigrationCause old new fault
  pub served : (shape : Shape) (array : Array) (next : ℕ)
      → StandsFor old.size shape old.content array next → next < 2 ^ 63
      → (¬ HasFewSlots 5 old.size old.content) → IsDeviceFault fault

-- The image is ours for this array, in the format that it had, with this next stamp or the one
-- behind it, or in format 2 in place of format 1, with the one behind it.
abbrev pub IsOursInEither : ℕ → Shape → Array → ℕ → Image → Type 0
IsOursInEither size shape array next image = IsOursWithNext size shape array next image
    ⊎ (CanMigrate shape × IsOurs size (migrated shape) image array (next + 1))

-- how many writes and flushes a migration makes at most: those of a recovery, and of format 1 those
-- that make format 2 of it
abbrev pub most_migration_sends : LogFormat → ℕ → ℕ
most_migration_sends One slots = most_start_sends One slots + (slot_sectors_of One * slots + 5)
most_migration_sends Two slots = most_start_sends Two slots

-- What a migration leaves at each moment of it, good or refused, and how many calls it makes.
-- Nothing is written where no slot of format 2 has room in the log of format 1.
abbrev pub MigrationLeaves : State → State → Type 0
MigrationLeaves old new =
    StartMoments IsOursInEither (λ format slots. 738 * 64) most_migration_sends 5 old new
