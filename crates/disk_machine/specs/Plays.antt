-- What each event does to a disk over a medium that reads on demand.
use Rattle.std.specs.Prelude.{◌≡◌, ℕ, ◌≤◌, ◌++◌, Bool, true, List}
use Rattle.std.specs.Prelude.{length, drop, zero, suc}
use Rattle.logical_blocks.specs.Book.{Book}
use Rattle.scsi.specs.Rules.{UnitState}
use Rattle.spec.specs.{Lagging.Lagging, declared.event.{Event.Event, Answer.Answer}}
use Rattle.medium.specs.Moments.{IsUnchanged}
use Rattle.window.specs.Window.{Window, state_of, ComesAfter, CoversDevice, IsServed, AreOnDevice}
use Rattle.window.specs.Window.{IsShown}
use Rattle.scsi_unit.specs.{Background.Work, Calls.ComesBy}
use Rattle.bot_machine.specs.Disk.{IsRearmed}
use Rattle.bot_machine.specs.LaggingDisk.{IsLagStep, MakesStep, MayPromiseNext, StandsFor}
use Rattle.bot_machine.specs.LaggingDisk.{WorksAside}
use Rattle.disk_machine.specs.{Codes.{code_of, bytes_of}, Parts.CoversParts}
use Rattle.disk_machine.specs.Refusals.{StepRefusesNothing}
use Rattle.spec.specs.declared.event.Event.TheVariants as event
use Rattle.spec.specs.declared.event.Answer.TheVariants as answer
pub use Rattle.disk_machine.specs.Seen.{Disk, Prompt, is_faulted, layout_on, medium_of, unit_of}

-- what a medium says of all calls of it that may come, and that what waits has room
pub record Foresees (m : Window) : Type 0 where
  pub held : length m.outbox ≤ m.room
  pub covers : (new : Window) → ComesAfter m new → CoversDevice m new
  pub parts : (new : Window) → ComesAfter m new → CoversParts m new
  pub served : (new : Window) → ComesAfter m new → IsServed m new

-- ---- an event

-- an event that asks the device for nothing
pub record PlaysStill (old : Disk) (event : Event) (answer : Answer) (new : Disk) : Type 0 where
  pub step : IsLagStep ⊥ (state_of (medium_of old)) (state_of (medium_of new)) old event answer new
  pub medium : medium_of new ≡ medium_of old

-- A step, which may promise or may not; all that it gave to the device is appended to the outbox.
pub record PlaysTick (Promises : Type 0) (old new : Disk) : Type 0 where
  pub step : IsLagStep Promises (state_of (medium_of old)) (state_of (medium_of new)) old
      event.Tick answer.Ticked new
  pub follows : ComesAfter (medium_of old) (medium_of new)
  -- each call that it made is one that the log may make, or a read,
  pub comes : ComesBy state_of ComesAfter (unit_of old).store (unit_of new).store
  -- wherever in the outbox the device is, a cut of it leaves what a cut at some moment could,
  pub covers : CoversDevice (medium_of old) (medium_of new)
  -- whichever of the writes behind its last flush it has carried out
  pub parts : CoversParts (medium_of old) (medium_of new)
  -- none of its calls is refused where the sectors that it read were in sight, and the outbox had
  -- room for all of its writes and flushes,
  pub served : IsServed (medium_of old) (medium_of new)
  -- as they were, and as it had, where the log is held, what is read at home is in sight, and there
  -- is room for a step
  pub refuses : StepRefusesNothing old new
  -- a faulted disk asks its device for nothing, and stays faulted
  pub faulted : is_faulted old ≡ true
      → ((medium_of new).outbox ≡ (medium_of old).outbox) × (is_faulted new ≡ true)

-- a step in the background that works towards this, where nothing is pending; else none
pub record PlaysWork (work : Work) (old new : Disk) : Type 0 where
  pub plays : PlaysTick ⊥ old new
  pub works : WorksAside work state_of ComesAfter old.pending old new

-- one step of the command that is pending
pub record PlaysPending (old new : Disk) : Type 0 where
  pub plays : PlaysTick (MayPromiseNext old) old new
  pub makes : MakesStep state_of ComesAfter old new

-- ---- what is no event

-- Sectors are shown, and taken or not. Where they are what the device holds, the disk stands for
-- what it stood for; where they are not, nothing but the medium has changed.
pub record Sees (old : Disk) (first : ℕ) (bytes : List ℕ) (new : Disk) (taken : Bool) : Type 0 where
  pub shown : IsShown first bytes taken (medium_of old) (medium_of new)
  pub others : IsRearmed old.disk new.disk
  pub pending : new.pending ≡ old.pending
  pub unchanged : AreOnDevice first bytes (medium_of old)
      → IsUnchanged (state_of (medium_of old)) (state_of (medium_of new))
  pub stands : AreOnDevice first bytes (medium_of old)
      → (book : Book) (c : Lagging UnitState) → StandsFor (state_of (medium_of old)) old book c
      → StandsFor (state_of (medium_of new)) new book c

-- ---- what is told

-- the answer's number, its bytes at the front of the room, and how many they are
pub record TellsAnswer (answer : Answer) (old new : List ℕ) (size code : ℕ) : Type 0 where
  pub code_is : code ≡ code_of answer
  pub size_is : size ≡ length (bytes_of answer)
  pub bytes_are : new ≡ bytes_of answer ++ drop (length (bytes_of answer)) old

-- ---- steps, one by one

-- a step of which this holds before it
abbrev pub Before : (Disk → Type 0) → Disk → Disk → Type 0
Before Holds old new = Holds old

-- so many steps that work towards this, one by one, each as this says
abbrev pub StepsWhile : (Disk → Disk → Type 0) → Work → ℕ → Disk → Disk → Type 0
StepsWhile Holds work zero old new = new ≡ old
StepsWhile Holds work (suc count) old new = (mid : Disk) × StepsWhile Holds work count old mid
    × Holds mid new × PlaysWork work mid new
