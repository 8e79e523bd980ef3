use Rattle.std.proofs.Common.{length}
use Rattle.medium.proofs.FileRuns.{Reading}
use Rattle.medium.proofs.whole.read_whole.Given as goal

abbrev pub invariant-loop : goal.invariant-loop
invariant-loop g l = Reading (length l.fn.to) l.to l.done (g.S.ToldFile.told l.fn.file) (g.S.ToldFile.told l.file)
