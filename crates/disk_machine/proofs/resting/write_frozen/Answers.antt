use Rattle.std.proofs.Common.{add-one}
use Rattle.disk_machine.proofs.resting.write_frozen.Goals as goal

pub loop-made-preserved : goal.loop-made-preserved
loop-made-preserved c = rw add-one
    (c.loop-made.disk, c.loop-made.invariant, c.may_write_on.ensures.0 c.if-not-may_write_on.false, c.make_step.ensures)
