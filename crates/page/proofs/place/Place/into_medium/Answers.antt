use Rattle.page.proofs.place.Place.into_medium.Goals as goal

pub returns-in-Runs-clause-leaves : goal.returns-in-Runs-clause-leaves
returns-in-Runs-clause-leaves c = λ book holds ours. c.stop.ensures.leaves book (rw c.in-Runs.is at holds).0 ours
