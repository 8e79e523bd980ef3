use Rattle.page.proofs.picture.served.Goals as goal

pub returns-in-Runs : goal.returns-in-Runs
returns-in-Runs c = λ book holds. rw c.in-Runs.is (c.read_all.ensures book (rw c.in-Runs.is at holds).0)
