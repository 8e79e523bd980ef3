use Rattle.std.proofs.Common.{length}
use Rattle.medium.proofs.Looks.{Looking}
use Rattle.medium.proofs.whole.look_whole.Given as goal

abbrev pub invariant-loop-turn : goal.invariant-loop-turn
invariant-loop-turn g l = Looking (g.S.ToldFile.told l.fn.file).looks l.at (length l.fn.to) l.to l.done l.turn
