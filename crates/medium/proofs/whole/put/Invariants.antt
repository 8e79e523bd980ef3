use Rattle.medium.proofs.FileRuns.{Putting}
use Rattle.medium.proofs.whole.put.Given as goal

abbrev pub invariant-loop : goal.invariant-loop
invariant-loop g l = Putting l.at l.bytes l.done (g.S.ToldFile.told l.fn.file) (g.S.ToldFile.told l.file)
