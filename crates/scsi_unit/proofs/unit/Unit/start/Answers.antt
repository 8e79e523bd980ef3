use Rattle.std.proofs.{Common.arith, lemmas.Result.MatchResult-weaker}
use Rattle.scsi_unit.proofs.unit.Unit.start.Goals as goal

pub returns-clause-ok : goal.returns-clause-ok
returns-clause-ok g c = grind (arith, c.start_by.ensures)

pub returns-clause-err : goal.returns-clause-err
returns-clause-err g c = grind (arith, c.start_by.ensures)

pub returns-clause-leaves : goal.returns-clause-leaves
returns-clause-leaves g c = grind (arith, c.start_by.ensures)

pub returns-clause-limit : goal.returns-clause-limit
returns-clause-limit g c limit ours has =
    MatchResult-weaker c.start_by.result c.start_by.ensures (λ unit starts. starts.leaves.limit limit ours has)
    (λ error refuses. refuses.leaves.limit limit ours has)

pub returns-clause-medium : goal.returns-clause-medium
returns-clause-medium g c = grind (arith, c.start_by.ensures)
