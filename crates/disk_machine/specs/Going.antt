-- A command that is pending goes on, as far as the device lets it.
use Rattle.std.specs.Prelude.{◌≡◌, ◌≢◌, ◌⊎◌, ◌≤◌, ◌∷◌, [], ℕ, zero, suc}
use Rattle.disk_machine.specs.{Plays.{PlaysPending, medium_of}, Machine.Machine}
use Rattle.disk_machine.specs.Wanted.{LacksNone, MayGoOn}
use Rattle.bot_machine.specs.declared.pending.Pending.{Pending}
use Rattle.std.specs.Prelude.{Some}
use Rattle.window.specs.declared.asked.Asked.TheVariants as asked
use Rattle.disk_machine.specs.Moves.{KeepsGoing, ServesTurns, played}
use Rattle.spec.specs.declared.event.Event.TheVariants as event
use Rattle.spec.specs.declared.event.Answer.TheVariants as answer

-- one step; nothing else of the machine changes
pub record StepsOn (old new : Machine) : Type 0 where
  pub plays : PlaysPending old.disk new.disk
  pub others : new ≡ record old { disk = new.disk }
  pub serves : ServesTurns (played event.Tick answer.Ticked ∷ []) old new
  pub goes_on : KeepsGoing old new

-- so many steps, each made where one may be
abbrev pub PendingSteps : ℕ → Machine → Machine → Type 0
PendingSteps zero old new = new ≡ old
PendingSteps (suc count) old new = (mid : Machine) × PendingSteps count old mid × MayGoOn mid
    × StepsOn mid new

-- At most 256, and fewer only where none may be made: then the device is to carry out calls first,
-- or to read, or nothing is pending.
pub record GoesOn (old new : Machine) : Type 0 where
  pub count : ℕ
  pub few : count ≤ 256
  pub steps : PendingSteps count old new
  pub ends : (count ≡ 256) ⊎ (¬ MayGoOn new)

-- A command that is pending and makes no step waits for a device that is at a call, or that `next`
-- tells one: the sectors that it lacks, or the calls that wait.
abbrev pub NeverStuck : Type 0
NeverStuck = (s : Machine) (pending : Pending) → s.disk.pending ≡ Some pending → ¬ MayGoOn s
    → s.asked ≡ asked.Nothing → LacksNone s → (medium_of s.disk).outbox ≢ []
