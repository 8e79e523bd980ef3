-- A write that is to be promised, and a commit, one step at a time: what the store fits between two
-- steps, and what a loss of power leaves at each moment of one.
use Rattle.std.specs.Prelude.{◌≡◌, ◌⊎◌, ◌↔◌, ◌<◌, ℕ, Bool, true, false, Option, Some, None}
use Rattle.medium.specs.{Medium.State, Moments.LeavesOnly}
use Rattle.logical_blocks.specs.{Blocks.Write, Book.{Book, with_write, promised}}
use Rattle.blocks.specs.{Calls.TurnsBatches, Finding.FoundWith, Passing.PassesOn, Turns.GoesOn}
use Rattle.blocks.specs.{Headroom.{KeepsHeadroom, FlushesOnce}, Prepared.IsTakenAtOnce}
use Rattle.blocks.specs.StoreValue.{Cached, StoreValue, FitsBook, TakesRange, is_dead, steps_left}
use Rattle.blocks.specs.StoreValue.{active_of, transfer_limit}
use Rattle.blocks.specs.{Work.DoesWork, Written.IsWritten, declared.stage.Stage.Stage}
use Rattle.blocks.specs.declared.stage.Stage.TheVariants.{Waits, Accepted, Promised, Failed}
use Rattle.blocks.specs.declared.work.Work.TheVariants.{WriteBack}

-- the book with this write, if there is one: a commit has none
abbrev pub with_some : Book → Option Write → Book
with_some book None = book
with_some book (Some write) = with_write book write

-- what the store fits at a stage, where the book is the one before the write
abbrev pub StageFits : Stage → State → Cached → Option Write → Book → Type 0
StageFits Waits m s write book = FitsBook m s book
StageFits Accepted m s write book = FitsBook m s (with_some book write)
StageFits Promised m s write book = FitsBook m s (promised (with_some book write))
StageFits Failed m s write book = FitsBook m s book ⊎ FitsBook m s (with_some book write)

-- the store is dead at this stage, and live at each other
abbrev pub is_failed : Stage → Bool
is_failed Failed = true
is_failed stage = false

-- One step, from one stage to another. At each moment of it a loss of power leaves what may be
-- found of the book before the write, perhaps with the write, whole.
pub record StageAdvanced {M : Type 0} (state : M → State) (Follows : M → M → Type 0)
    (write : Option Write) (from to : Stage) (old new : StoreValue M) : Type 0 where
  pub fits : (book : Book) → StageFits from (state old.medium) old.cached write book
      → StageFits to (state new.medium) new.cached write book
  pub cuts : (book : Book) → StageFits from (state old.medium) old.cached write book
      → book.ours ≡ true
      → LeavesOnly (FoundWith (state old.medium).size book write)
      (state old.medium) (state new.medium)
  -- where the stage stays, fewer steps are left
  pub fewer : to ≡ from → steps_left new.cached < steps_left old.cached
  pub life : is_dead new.cached ≡ is_failed to
  -- it makes two calls of the medium at most
  pub passes : PassesOn state Follows GoesOn 2 2 old new
  pub headroom : KeepsHeadroom old new
  pub once : FlushesOnce old.goes_ahead (state old.medium) (state new.medium) old.cached new.cached

-- a write of this range is put into a batch, by no call of the medium
pub record TakesByStep {M : Type 0} (address count : ℕ) (old new : StoreValue M) : Type 0 where
  pub medium : new.medium ≡ old.medium
  pub active : TakesRange (transfer_limit old.cached) (active_of old.cached) address count
      (active_of new.cached)
  pub batches : TurnsBatches old.goes_ahead old.cached new.cached address count

-- One step of a write: a live store takes it where it is taken at once, and else makes one step of
-- the work that writes back.
pub record WriteStepPost {M : Type 0} (state : M → State) (Follows : M → M → Type 0)
    (write : Write) (address count : ℕ) (result : Stage) (old new : StoreValue M)
    : Type 0 where
  pub advanced : StageAdvanced state Follows (Some write) Waits result old new
  pub dead : is_dead old.cached ≡ true → new ≡ old
  pub takes : is_dead old.cached ≡ false → IsTakenAtOnce old.cached address count
      → (result ≡ Accepted) × TakesByStep address count old new
  pub works : is_dead old.cached ≡ false → ¬ IsTakenAtOnce old.cached address count
      → (is_dead new.cached ≡ false → result ≡ Waits) × DoesWork state Follows WriteBack old new

-- One step of a commit, of any write that is accepted, or of none: it makes one step of the work
-- that writes back. All is promised exactly where no record of a live store was left to write.
pub record CommitStepPost {M : Type 0} (state : M → State) (Follows : M → M → Type 0)
    (result : Stage) (old new : StoreValue M) : Type 0 where
  pub advanced : (write : Option Write)
      → StageAdvanced state Follows write Accepted result old new
  pub promised : (result ≡ Promised)
      ↔ ((is_dead old.cached ≡ false) × IsWritten old.cached)
  pub works : DoesWork state Follows WriteBack old new
