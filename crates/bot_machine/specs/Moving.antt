-- What is done over lives to the disk itself and to its medium, action by action.
use Rattle.std.specs.Prelude.{◌≡◌, ℕ, Bool, true, false, List, [], ◌∷◌, ◌++◌, if◌then◌else◌}
use Rattle.medium.specs.{Medium.State, Sim.{Sim, state_of, IsCut, IsFused, IsFailing, ComesAfter}}
use Rattle.scsi_unit.specs.StartFaults.{StartFault}
pub use Rattle.scsi_unit.specs.Serving.{has_refused}
use Rattle.spec.specs.{declared.event.Event.Event, declared.event.Answer.Answer}
use Rattle.spec.specs.declared.event.Answer.TheVariants.{Off}
use Rattle.spec.specs.Lives.{Action, arms, fails, starts, plays, cuts}
use Rattle.bot_machine.specs.declared.lives.disk_state.DiskState.{DiskState}
use Rattle.bot_machine.specs.declared.lives.disk_state.DiskState.TheVariants.{Stopped, Running}
use Rattle.bot_machine.specs.{Device.Device, Disk.{DiskValue, IsStep, IsRearmed}}
use Rattle.bot_machine.specs.Opening.{IsOpened, IsNotOpened, StartLeaves}

-- the medium of a disk, or the medium alone
abbrev pub medium_in : DiskState → Sim
medium_in (Stopped medium) = medium
medium_in (Running disk) = disk.unit.store.medium

abbrev pub state_in : DiskState → State
state_in state = state_of (medium_in state)

-- A start called a medium: what it left at each moment, and what became of power and fuse.
pub record HasCalled (old new : Sim) : Type 0 where
  pub leaves : StartLeaves (state_of old) (state_of new)
  pub follows : ComesAfter old new

-- a start was refused with this fault, though power did not go in it
pub record IsRefusedStart (old : Sim) (fault : StartFault) (new : Sim) : Type 0 where
  pub called : HasCalled old new
  pub cause : IsNotOpened (state_of old) (state_of new) fault
  pub on : new.power.off ≡ false

-- a disk starts on a medium whose contents stood for something, or power goes in the start
abbrev pub StartsOn : Device → Sim → DiskState → Type 0
StartsOn device old (Running disk) =
    IsOpened (state_of old) (state_of disk.unit.store.medium) device disk
    × HasCalled old disk.unit.store.medium
StartsOn device old (Stopped new) = HasCalled old new × (new.power.off ≡ true)

-- a start does nothing while the power is off, or where a disk runs
abbrev pub StartsIn : Bool → Device → Sim → DiskState → Type 0
StartsIn true device old new = new ≡ Stopped old
StartsIn false device old new = StartsOn device old new

abbrev pub StartMoves : Device → DiskState → DiskState → Type 0
StartMoves device (Stopped medium) new = StartsIn medium.power.off device medium new
StartMoves device (Running disk) new = new ≡ Running disk

-- An event came to a disk whose power was on: one step of the disk. Its own answer is given where
-- the power is still on.
pub record IsPlayed (old : DiskValue Sim) (event : Event) (answer : Answer) (new : DiskValue Sim)
    : Type 0 where
  pub told : Answer
  pub step : IsStep (state_of old.unit.store.medium) (state_of new.unit.store.medium)
      old event told new
  pub follows : ComesAfter old.unit.store.medium new.unit.store.medium
  pub answered : answer ≡ (if new.unit.store.medium.power.off then Off else told)

-- an event does nothing while the power is off
abbrev pub EventMovesIn : Bool → DiskValue Sim → Event → Answer → DiskState → Type 0
EventMovesIn true old event answer new = (answer ≡ Off) × (new ≡ Running old)
EventMovesIn false old event answer new =
    (disk : DiskValue Sim) × (new ≡ Running disk) × IsPlayed old event answer disk

abbrev pub EventMoves : DiskState → Event → Answer → DiskState → Type 0
EventMoves (Stopped medium) event answer new = (answer ≡ Off) × (new ≡ Stopped medium)
EventMoves (Running disk) event answer new =
    EventMovesIn disk.unit.store.medium.power.off disk event answer new

-- a fuse is armed, and nothing else changes
abbrev pub FuseMoves : ℕ → DiskState → DiskState → Type 0
FuseMoves writes (Stopped old) (Stopped new) = IsFused writes old new
FuseMoves writes (Running old) (Running new) =
    IsFused writes old.unit.store.medium new.unit.store.medium × IsRearmed old new
FuseMoves writes old new = ⊥

-- a failure is armed, and nothing else changes
abbrev pub FailureMoves : ℕ → DiskState → DiskState → Type 0
FailureMoves call (Stopped old) (Stopped new) = IsFailing call old new
FailureMoves call (Running old) (Running new) =
    IsFailing call old.unit.store.medium new.unit.store.medium × IsRearmed old new
FailureMoves call old new = ⊥

-- a cut keeps these of the unflushed writes, and no disk runs
abbrev pub CutMoves : (ℕ → Bool) → DiskState → DiskState → Type 0
CutMoves keeps old (Stopped new) = IsCut keeps (medium_in old) new
CutMoves keeps old (Running new) = ⊥

abbrev pub Does : Device → DiskState → Action → List Answer → DiskState → Type 0
Does device old (arms writes) answers new = (answers ≡ []) × FuseMoves writes old new
Does device old (fails call) answers new = (answers ≡ []) × FailureMoves call old new
Does device old starts answers new = (answers ≡ []) × StartMoves device old new
Does device old (plays event) answers new =
    (answer : Answer) × (answers ≡ answer ∷ []) × EventMoves old event answer new
Does device old (cuts keeps) answers new = (answers ≡ []) × CutMoves keeps old new

-- one action, its answers, and whether the medium refused a call in it
pub record Moves (device : Device) (refused : Bool) (old : DiskState) (action : Action)
    (answers : List Answer) (new : DiskState) : Type 0 where
  pub does : Does device old action answers new
  pub counted : refused ≡ has_refused (state_in old) (state_in new)

-- actions and their answers, one after another
abbrev pub MovesBy : Device → DiskState → List Action → List Answer → List Bool → DiskState
    → Type 0
MovesBy device old [] answers [] new = (answers ≡ []) × (new ≡ old)
MovesBy device old (action ∷ actions) answers (refused ∷ refusals) new =
    (mid : DiskState) × (here : List Answer) × (later : List Answer) × (answers ≡ here ++ later)
    × Moves device refused old action here mid
    × MovesBy device mid actions later refusals new
MovesBy device old actions answers refusals new = ⊥
