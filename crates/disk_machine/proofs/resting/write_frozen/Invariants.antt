use Rattle.scsi_unit.specs.Background.{WriteBack}
use Rattle.disk_machine.specs.{Idling.MayWriteOn, Plays.{Before, StepsWhile}}
use Rattle.disk_machine.proofs.resting.write_frozen.Given as goal

-- `_made` steps were made
abbrev pub invariant-loop-made : goal.invariant-loop-made
invariant-loop-made l = StepsWhile (Before (MayWriteOn l.most)) WriteBack l._made l.fn.disk l.disk
