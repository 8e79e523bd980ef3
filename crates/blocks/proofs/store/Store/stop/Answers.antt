use Rattle.std.proofs.Common.{refl}
use Rattle.redo_log.proofs.StoreFacts.{died_holds}
use Rattle.blocks.proofs.{BookTurns.moves, TurnsJoined.died_kept}
use Rattle.theorems.proofs.LogRuns.{dies_runs}
use Rattle.blocks.proofs.store.Store.stop.Goals as goal

pub invariant_of-self : goal.invariant_of-self
invariant_of-self g c = died_kept refl c.stop.ensures c.self.invariant

pub returns-clause-runs : goal.returns-clause-runs
returns-clause-runs g c =
    rw (← c.self.view_is, c.stop.ensures)
    (dies_runs {state = g.M.Medium.state} {Follows = g.M.Medium.follows} c.self.inside.medium c.self.inside.log)

pub returns-clause-fits : goal.returns-clause-fits
returns-clause-fits g c = rw (← c.self.view_is, c.stop.ensures)
    (λ book f. moves f (died_holds _ _ f.view f.holds) refl f.under_way f.some refl refl refl)
