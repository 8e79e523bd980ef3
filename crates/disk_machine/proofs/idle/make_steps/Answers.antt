use Rattle.std.proofs.Common.{add-one, rules}
use Rattle.disk_machine.specs.{Idling.{IsAllDone, MaySettle}}
use Rattle.disk_machine.proofs.idle.make_steps.Goals as goal

pub loop-made-preserved : goal.loop-made-preserved
loop-made-preserved c =
    let left : ¬ IsAllDone c.loop-made.disk = search rules in
    let may : MaySettle c.args.most c.loop-made.disk = record { left = left; short = c.is_short.ensures.0 c.if-not-is_short.false } in
    rw add-one (c.loop-made.disk, c.loop-made.invariant, may, c.make_step.ensures)
