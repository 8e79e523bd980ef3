use Rattle.std.proofs.Common.{arith}
use Rattle.blocks.proofs.{TurnsJoined.exits, Limits.has_limits, EmptyBatches.settled}
use Rattle.blocks.proofs.store.Store.medium.Goals as goal

pub returns-clause-limits : goal.returns-clause-limits
returns-clause-limits g c =
    let i = c.self.inside in rw (← c.self.view_is) (has_limits _ i.sizes _ i.writing i.goes_ahead c.self.invariant)

pub returns-clause-at_rest : goal.returns-clause-at_rest
returns-clause-at_rest g c book fits ours = exits _ _ book fits ours

pub returns-clause-settled : goal.returns-clause-settled
returns-clause-settled g c live none =
    let lives = rw (← c.self.view_is) at live in
    let no_steps = rw (← c.self.view_is) at none in
    rw (← c.self.view_is)
    (settled (g.M.Medium.state c.self.inside.medium) (g.met.M.Medium.sound c.self.inside.medium) _ c.is_retired.ensures.owes
    (c.self.invariant.none_under_way lives (omega (arith, no_steps))) lives no_steps)
