use Rattle.std.proofs.Common.{Ok}
use Rattle.medium.specs.Tally.{of_all}
use Rattle.medium.specs.Machine.{Driven}
use Rattle.medium.proofs.machine.drive.Given as goal

abbrev pub invariant-loop-call : goal.invariant-loop-call
invariant-loop-call g l =
    Driven g.M.Medium.state g.T.Machine.fits g.T.Machine.holds g.T.Machine.may g.T.Machine.reads g.T.Machine.ends g.T.Machine.cost
    g.T.Machine.exact l.initial.machine l.initial.sector l.initial.m (Ok tt) l.machine l.sector l.m × g.M.Medium.follows l.initial.m l.m

abbrev pub decreases-loop-call : goal.decreases-loop-call
decreases-loop-call g l = of_all (g.T.Machine.cost l.machine)
