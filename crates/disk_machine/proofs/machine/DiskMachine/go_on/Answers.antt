use Rattle.std.proofs.Common.{add-one}
use Rattle.disk_machine.proofs.machine.DiskMachine.go_on.Goals as goal

pub loop-made-preserved : goal.loop-made-preserved
loop-made-preserved c =
    rw add-one (c.loop-made.self, c.loop-made.invariant, c.may_go_on.ensures.0 c.if-not-may_go_on.false, c.step_on.ensures)
