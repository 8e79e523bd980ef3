-- What calls that leave the outbox keep of a disk; and the device refused the call that was handed
-- out last, of which the disk is told.
use Rattle.std.specs.Prelude.{◌≡◌, true}
use Rattle.logical_blocks.specs.Book.{Book}
use Rattle.scsi.specs.Rules.{UnitState}
use Rattle.spec.specs.Lagging.{Lagging}
use Rattle.window.specs.Window.{state_of}
use Rattle.store_calls.specs.Outbox.{IsEmptied}
use Rattle.bot_machine.specs.Disk.{IsRearmed}
use Rattle.bot_machine.specs.LaggingDisk.{IsLagStepBy, StandsFor}
use Rattle.disk_machine.specs.Plays.{Disk, is_faulted, medium_of}
use Rattle.spec.specs.declared.event.Event.TheVariants as event
use Rattle.spec.specs.declared.event.Answer.TheVariants as answer

-- calls left the outbox, and nothing else of the disk changes
pub record KeepsRest (old new : Disk) : Type 0 where
  pub others : IsRearmed old.disk new.disk
  pub pending : new.pending ≡ old.pending
  pub stands : (book : Book) (c : Lagging UnitState)
      → StandsFor (state_of (medium_of old)) old book c
      → StandsFor (state_of (medium_of new)) new book c

-- all that waits leaves the outbox, and nothing else of the disk changes
pub record IsDrained (old new : Disk) : Type 0 where
  pub emptied : IsEmptied (medium_of old) (medium_of new)
  pub rest : KeepsRest old new

-- What waited is handed to no device. So the device holds what it was handed before, of which the
-- call that it refused is the last: what a cut may leave of that is in `PlaysTick.parts` of the
-- steps that asked for it. By `PlaysTick.faulted` no later step asks for anything. The disk is
-- faulted, by the rules of a step with a refused call.
pub record IsRefused (old new : Disk) : Type 0 where
  pub mid : Disk
  pub drained : IsDrained old mid
  pub step : IsLagStepBy ⊥ true (state_of (medium_of mid)) (state_of (medium_of new)) mid
      event.Tick answer.Ticked new
  pub dead : is_faulted new ≡ true
  pub medium : medium_of new ≡ medium_of mid
