use Rattle.std.proofs.Common.{rules}
use Rattle.theorems.proofs.LogRuns.{run_then}
use Rattle.blocks.proofs.TurnsJoined.{turns}
use Rattle.blocks.proofs.store.Store.begin_next.Goals as goal

pub returns-then-is_empty : goal.returns-then-is_empty
returns-then-is_empty g c = let turn = turns _ _ _ _ _ _ c.freeze.ensures.keeps.turn c.begin.ensures.keeps.turn in
    let runs = run_then c.freeze.ensures.keeps.runs c.begin.ensures.keeps.runs in
    search rules
