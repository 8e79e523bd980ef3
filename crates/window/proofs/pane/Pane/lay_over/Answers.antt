use Rattle.std.proofs.Common.{rules}
use Rattle.window.proofs.Shown.{laid_on}
use Rattle.window.proofs.pane.Pane.lay_over.Goals as goal

pub loop-place-preserved : goal.loop-place-preserved
loop-place-preserved c = rw c.in-Some.ensures.some (search (rules, laid_on, c.carry_out.ensures, c.loop-place.invariant))
