use Rattle.std.proofs.Common.{inr, refl}
use Rattle.disk_machine.proofs.machine.DiskMachine.go_ahead.Goals as goal

pub returns-then-is_resting : goal.returns-then-is_resting
returns-then-is_resting c = inr (c.is_resting.ensures.0 c.if-is_resting.true, c.work_at_rest.ensures, refl)
