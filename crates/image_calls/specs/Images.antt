-- What is made of an image on a device, and what waits for the device then.
use Rattle.std.specs.Prelude.{◌≡◌, ◌⊎◌, ◌+◌, ◌<◌, ◌≤◌, Bool, None}
use Rattle.window.specs.Window.{Window, state_of, kept_out, ComesAfter, CoversDevice}
use Rattle.journal.specs.{Places.Shape, Standing.HasShape}
use Rattle.recovery.specs.Calls.{HoldsLog}
use Rattle.recovery.specs.Recovered.{IsMigrationBy, IsMigrationRefusal, MigrationLeaves}
use Rattle.recovery.specs.{Recovered.most_migration_sends, declared.recovered.Recovered.Recovered}
use Rattle.recovery.specs.{declared.start_fault.StartFault.StartFault}
use Rattle.recovery.specs.declared.start_fault.StartFault.TheVariants as fault_of_start
use Rattle.recovery.specs.{declared.start_fault.StartFault.TheVariants.NoMemory}
use Rattle.medium.specs.{Sent.sent}
use Rattle.image_calls.specs.{declared.work.Work.Work}

-- Wherever among the calls that wait the device is, a cut of it leaves what a cut at some moment of
-- those calls could; they are all that was given to it since.
pub record WaitFor (first new : Window) : Type 0 where
  pub follows : ComesAfter first new
  pub covers : CoversDevice first new

-- No read was refused, where the first sectors are all before the first home sector: none named any
-- other.
abbrev pub MissesNone : Window → Window → Type 0
MissesNone first after = HoldsLog first.near (state_of first).size (state_of first).content
    → after.seen.told.refused.reads ≡ first.seen.told.refused.reads

-- the image on the device of this medium was migrated
pub record IsMigratedOn (first new : Window) : Type 0 where
  pub answer : Recovered
  pub was_one : Bool
  pub migrated : IsMigrationBy was_one (state_of first) (state_of new) answer
  pub leaves : MigrationLeaves (state_of first) (state_of new)
  pub waits : WaitFor first new
  pub seen : MissesNone first new

-- Why none was, by calls of the medium alone. No write and no flush was refused where there was the
-- room that a migration needs by the format and the slots of the image. Where one was, those of
-- this very migration had no room together.
pub record IsMigratedNot (first after : Window) (why : StartFault) : Type 0 where
  pub refusal : IsMigrationRefusal (state_of first) (state_of after) why
  pub follows : ComesAfter first after
  pub leaves : MigrationLeaves (state_of first) (state_of after)
  pub full : (why ≡ fault_of_start.Write) ⊎ (why ≡ fault_of_start.Flush)
      → sent (state_of first) + first.room < sent (state_of after)
  pub kept : (shape : Shape) → HasShape (state_of first).size shape (state_of first).content
      → most_migration_sends shape.format shape.slots ≤ first.room
      → kept_out after.seen.told.refused ≡ kept_out first.seen.told.refused
  pub seen : MissesNone first after

-- that was done on the medium, and nothing is left to do
abbrev pub IsFinished : (Window → Type 0) → Work → Type 0
IsFinished Is work = Is work.medium × (work.left ≡ None)
