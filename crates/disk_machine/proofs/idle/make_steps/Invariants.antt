use Rattle.scsi_unit.specs.Background.{Settle}
use Rattle.disk_machine.specs.{Idling.MaySettle, Plays.{Before, StepsWhile}}
use Rattle.disk_machine.proofs.idle.make_steps.Given as goal

-- `_made` steps were made
abbrev pub invariant-loop-made : goal.invariant-loop-made
invariant-loop-made l = StepsWhile (Before (MaySettle l.most)) Settle l._made l.fn.disk l.disk
