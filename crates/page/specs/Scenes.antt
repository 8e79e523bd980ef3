-- What a scene holds.
use Rattle.std.specs.Prelude.{◌≡◌, ◌≤◌, ◌-◌, ◌^◌, Bool, true, false, [], min, length}
use Rattle.medium.specs.Moments.{EachCut, IsFlushed}
use Rattle.medium.specs.Sim.{Sim, state_of, ComesAfter}
use Rattle.logical_blocks.specs.Book.{Book}
use Rattle.recovery.specs.declared.start_fault.StartFault.{StartFault}
use Rattle.blocks.specs.{Finding.MayFind, Started.IsStartCause}
use Rattle.blocks.specs.StoreValue.{StoreValue, FitsBook, is_dead}
use Rattle.page.specs.Books.{Carries, CommandsStore, Opens, StartsOn, Turns}
use Rattle.page.specs.Causes.{Outcome, Answers, HasDied, HasPolicy}
use Rattle.page.specs.Standing.{KeepsLives, Standing, standing}
use Rattle.page.specs.declared.life.Life.{Life}
use Rattle.page.specs.declared.place.Place.{Place}
use Rattle.page.specs.declared.place.Place.TheVariants.{Runs, Off, Between}
use Rattle.page.specs.declared.scene.Scene.{Scene}
use Rattle.page.specs.declared.step.Command.{Command}
use Rattle.page.specs.declared.step.Step.{Step}

-- whatever a cut leaves of a medium, a start finds the first writes of the book, the promised ones
-- at least
abbrev pub LeavesBook : Sim → Book → Type 0
LeavesBook m book = EachCut (MayFind (state_of m).size book) (state_of m)

-- the numbers of a life are those of its book, up to the greatest number
pub record Counts (life : Life) (book : Book) : Type 0 where
  pub accepted : life.accepted ≡ min (2 ^ 64 - 1) (length book.writes)
  pub promised : life.promised ≡ min (2 ^ 64 - 1) book.mark

-- a store that runs has a life with this book
pub record Has (life : Life) (store : StoreValue Sim) (book : Book) : Type 0 where
  pub fits : FitsBook (state_of store.medium) store.cached book
  pub ours : book.ours ≡ true
  pub counts : Counts life book

-- what a place holds of a book
abbrev pub HoldsAt : Place → Book → Type 0
HoldsAt (Runs store) book =
    FitsBook (state_of store.medium) store.cached book × (is_dead store.cached ≡ false)
HoldsAt (Off m) book = LeavesBook m book
HoldsAt (Between m) book = LeavesBook m book × IsFlushed (state_of m)

-- a scene of a life with this book
pub record Shows (scene : Scene) (book : Book) : Type 0 where
  pub holds : HoldsAt scene.place book
  pub ours : book.ours ≡ true
  pub counts : Counts scene.life book

-- a step is played: on each book that the scene shows
pub record Plays (step : Step) (result : Outcome) (old : Scene) (book : Book) (new : Scene)
    : Type 0 where
  pub later : Book
  pub shows : Shows new later
  pub turns : Turns step result (standing old book) (standing new later)

-- A store carries a command out, on each book that it has: by calls of its medium alone.
pub record Carried (command : Command) (result : Outcome) (old : Book) (was : Life)
    (store : StoreValue Sim) (life : Life) (after : StoreValue Sim) : Type 0 where
  pub later : Book
  pub has : Has life after later
  pub carries : Carries command result old later
  pub answers : Answers command result store after
  pub dies : is_dead store.cached ≡ false → is_dead after.cached ≡ true
      → HasDied store.medium after.medium later
  pub refusals : (state_of store.medium).failures ≤ (state_of after.medium).failures
  pub policy : after.goes_ahead ≡ store.goes_ahead
  pub follows : ComesAfter store.medium after.medium
  pub lives : KeepsLives was life

abbrev pub Serves : Command → Outcome → Life → StoreValue Sim → Book → Life → StoreValue Sim
    → Type 0
Serves command result life store book next after =
    Has life store book → Carried command result book life store next after

-- a command came to a disk that runs
pub record Commanded (command : Command) (result : Outcome) (store : StoreValue Sim)
    (old : Standing) (new : Scene) : Type 0 where
  pub later : Book
  pub shows : Shows new later
  pub commands : CommandsStore command result store old (standing new later)

-- a disk started, or its start was refused or cut
pub record Started (result : Outcome) (m : Sim) (old : Standing) (new : Scene) : Type 0 where
  pub later : Book
  pub shows : Shows new later
  pub starts : StartsOn result m old (standing new later)

-- what a start has found: the first writes of a book
pub record Finds (old later : Book) : Type 0 where
  pub opens : Opens old later
  pub none : later.writes ≡ []
  pub mark : later.mark ≡ 0
  pub ours : later.ours ≡ true

-- a store that has started serves them
pub record IsStarted (ahead : Bool) (old : Book) (m : Sim) (store : StoreValue Sim) : Type 0 where
  pub later : Book
  pub finds : Finds old later
  pub fits : FitsBook (state_of store.medium) store.cached later
  pub live : is_dead store.cached ≡ false
  pub policy : HasPolicy ahead store
  pub follows : ComesAfter m store.medium

-- a start that was refused has left them
pub record IsLeft (old : Book) (m new : Sim) : Type 0 where
  pub later : Book
  pub finds : Finds old later
  pub leaves : LeavesBook new later
  pub fault : StartFault
  pub cause : IsStartCause (state_of m) (state_of new) fault
  pub follows : ComesAfter m new
