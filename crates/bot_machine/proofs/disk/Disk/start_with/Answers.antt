use Rattle.std.proofs.lemmas.Result.{MatchResult-weaker}
use Rattle.scsi_unit.proofs.StartedUnit.{good_start, refused_start}
use Rattle.bot_machine.proofs.disk.Disk.start_with.Goals as goal

pub returns-clause-ok : goal.returns-clause-ok
returns-clause-ok g c = good_start _ _ _ c.start_by.result c.start_by.ensures (λ disk starts. starts.opened)

pub returns-clause-err : goal.returns-clause-err
returns-clause-err g c = refused_start _ _ _ c.start_by.result c.start_by.ensures (λ error refuses. refuses.cause)

pub returns-clause-leaves : goal.returns-clause-leaves
returns-clause-leaves g c =
    MatchResult-weaker c.start_by.result c.start_by.ensures (λ disk starts. starts.leaves.leaves) (λ error refuses. refuses.leaves.leaves)

pub returns-clause-limit : goal.returns-clause-limit
returns-clause-limit g c = λ limit ours has.
    MatchResult-weaker c.start_by.result c.start_by.ensures (λ disk starts. starts.leaves.limit limit ours has)
    (λ error refuses. refuses.leaves.limit limit ours has)

pub returns-clause-medium : goal.returns-clause-medium
returns-clause-medium g c =
    MatchResult-weaker c.start_by.result c.start_by.ensures (λ disk starts. starts.leaves.medium) (λ error refuses. refuses.leaves.medium)
