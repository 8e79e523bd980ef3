use Rattle.page.proofs.place.stop.Goals as goal

pub returns-clause-leaves : goal.returns-clause-leaves
returns-clause-leaves c = λ book fits ours. rw c.into_medium.ensures (c.medium.ensures.at_rest book fits ours)
