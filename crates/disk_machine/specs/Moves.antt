-- What each call leaves true of a machine.
use Rattle.std.specs.Prelude.{◌≡◌, ◌≤◌, ◌+◌, ℕ, zero, suc, Bool, true, List, [], ◌∷◌, ◌++◌}
use Rattle.std.specs.Prelude.{None, if◌then◌else◌}
use Rattle.medium.specs.Medium.{Image}
use Rattle.logical_blocks.specs.{Blocks.Write, Book.Book}
use Rattle.scsi.specs.Rules.{UnitState}
use Rattle.spec.specs.{Lagging.{Lagging, UnitLagStep, UnitLagRun}}
use Rattle.spec.specs.declared.event.{Event.Event, Answer.Answer}
use Rattle.window.specs.{declared.state.MachineState.MachineState, OutboxMedium.sent, Window.Window}
use Rattle.scsi_unit.specs.Laws.{IsSameLife}
use Rattle.bot_machine.specs.LaggingDisk.{StandsFor}
use Rattle.disk_machine.specs.{Parts.CoversParts, Seen.{Prompt, is_faulted, medium_of}}
use Rattle.disk_machine.specs.Machine.{Machine, MayLeave, Serves, IsCaughtUp, has_refused}
use Rattle.window.specs.Window as window
use Rattle.spec.specs.declared.event.Event.TheVariants as event
use Rattle.spec.specs.declared.event.Answer.TheVariants as answer
use Rattle.window.specs.declared.asked.Asked.TheVariants as asked
use Rattle.window.specs.declared.state.MachineState.TheVariants as state
use Rattle.disk_machine.specs.declared.lack.Lack.TheVariants as lack

-- a machine over a disk that has just started
abbrev pub begun : Prompt → ℕ → Machine
begun disk most = record {
  disk = record { disk = disk; pending = None };
  most = most;
  asked = asked.Nothing;
  lack = lack.Nothing;
}

-- what it is at
abbrev pub state_of : Machine → MachineState
state_of s = if has_refused s.asked then state.Refused else state.Serving

-- ---- what stays true

-- a loss of power leaves no more than before: so a start that is under way is as safe as it was
abbrev pub LeavesNoMore : Machine → Machine → Type 0
LeavesNoMore old new = (image : Image) → MayLeave new image → MayLeave old image

-- what a loss of power leaves, a cut of the start on this medium could leave
abbrev pub LeavesOfStart : Window → Machine → Type 0
LeavesOfStart first s = (image : Image) → MayLeave s image
    → (window.state_of (medium_of s.disk)).left_since (window.state_of first).calls image

-- so it is of a machine over a disk that has just started, on a medium of which nothing was sent
abbrev pub BeginsBehind : Machine → Type 0
BeginsBehind s = (first : Window) → sent (window.mirror_of first) ≡ []
    → CoversParts first (medium_of s.disk) → LeavesOfStart first s

-- where the device has carried out all, each life that the disk stands for is served
abbrev pub ServesAtRest : Machine → Type 0
ServesAtRest s = IsCaughtUp s → (book : Book) (c : Lagging UnitState)
    → StandsFor (window.state_of (medium_of s.disk)) s.disk book c → Serves s book c

-- whatever life it serves it serves on, and by the rules nothing has happened
abbrev pub ServesOn : Machine → Machine → Type 0
ServesOn old new = (book : Book) (c : Lagging UnitState) → Serves old book c → Serves new book c

-- The outbox has room for a step beside the most calls that wait when one is made: so it is of a
-- machine that was started.
pub record HasRoomBeside (s : Machine) : Type 0 where
  pub steps : s.most + 2 ≤ (medium_of s.disk).room

-- no write is accepted, and the device is asked for nothing new, until the next start
abbrev pub IsDead : Machine → Type 0
IsDead s = is_faulted s.disk ≡ true

-- What each call keeps. Of a faulted disk, however far its start had come, a loss of power leaves
-- no more than before.
pub record KeepsGoing (old new : Machine) : Type 0 where
  pub room : HasRoomBeside old → HasRoomBeside new
  pub dead : IsDead old → LeavesNoMore old new × IsDead new

-- a call that is no event of the disk
pub record StaysSafe (old new : Machine) : Type 0 where
  pub serves : ServesOn old new
  pub leaves : LeavesNoMore old new
  pub goes_on : KeepsGoing old new

-- ---- what is said

-- an event and its answer
pub data Turn : Type 0 where
  played : Event → Answer → Turn

-- so many steps
abbrev pub ticks : ℕ → List Turn
ticks zero = []
ticks (suc count) = ticks count ++ played event.Tick answer.Ticked ∷ []

-- by the rules of a disk whose device may be behind
abbrev pub TurnsRun : Lagging UnitState → List Turn → Lagging UnitState → Type 0
TurnsRun old [] new = new ≡ old
TurnsRun old (played event answer ∷ turns) new = (refused : Bool) × (mid : Lagging UnitState)
    × UnitLagStep refused old event answer mid × TurnsRun mid turns new

-- The life is served on: the accepted writes are those of before, and maybe more, and each promise
-- stands. What was said since is by the rules.
pub record ServesLater (book : Book) (c : Lagging UnitState) (turns : List Turn) (new : Machine)
    : Type 0 where
  pub later : Book
  pub next : Lagging UnitState
  pub serves : Serves new later next
  pub life : IsSameLife book later
  pub since : List Write
  pub writes : later.writes ≡ book.writes ++ since
  pub promises : book.mark ≤ later.mark
  pub run : TurnsRun c turns next

abbrev pub ServesTurns : List Turn → Machine → Machine → Type 0
ServesTurns turns old new = (book : Book) (c : Lagging UnitState) → Serves old book c
    → ServesLater book c turns new

-- such turns are a run of the conversation
abbrev pub turn_events : List Turn → List Event
turn_events [] = []
turn_events (played event answer ∷ turns) = event ∷ turn_events turns

abbrev pub turn_answers : List Turn → List Answer
turn_answers [] = []
turn_answers (played event answer ∷ turns) = answer ∷ turn_answers turns

abbrev pub TurnsAreRun : Type 0
TurnsAreRun = (old : Lagging UnitState) (turns : List Turn) (new : Lagging UnitState)
    → TurnsRun old turns new
    → (refusals : List Bool) × UnitLagRun old (turn_events turns) (turn_answers turns) refusals new
