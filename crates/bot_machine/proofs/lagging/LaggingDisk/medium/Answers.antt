use Rattle.bot_machine.proofs.LaggingEvents.{at_rest}
use Rattle.bot_machine.proofs.lagging.LaggingDisk.medium.Goals as goal

pub returns-clause-at_rest : goal.returns-clause-at_rest
returns-clause-at_rest g c =
    let d = c.self.inside in
    rw (← c.self.view_is) (λ book s stands ours. at_rest _ d.disk d.pending book s c.self.invariant stands ours)
