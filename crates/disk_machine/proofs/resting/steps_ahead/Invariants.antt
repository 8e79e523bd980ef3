use Rattle.scsi_unit.specs.Background.{Ahead}
use Rattle.disk_machine.specs.{Idling.AsksAhead, Plays.StepsWhile}
use Rattle.disk_machine.proofs.resting.steps_ahead.Given as goal

-- `_made` steps were made, each of which asked for something
abbrev pub invariant-loop-made : goal.invariant-loop-made
invariant-loop-made l = StepsWhile (AsksAhead l.most) Ahead l._made l.fn.disk l.disk
