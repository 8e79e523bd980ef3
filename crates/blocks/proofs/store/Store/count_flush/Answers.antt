use Rattle.std.proofs.{Common.arith, lemmas.Bool.Decides.nat_tests}
use Rattle.blocks.{specs.StoreValue.Cached, proofs.TurnsJoined.counts_turn}
use Rattle.theorems.proofs.LogRuns.{counts_runs}
use Rattle.blocks.proofs.store.Store.count_flush.Goals as goal

pub returns : goal.returns
returns g c =
    let s : Cached = record { log = c.self.inside.log; active = c.self.inside.active; frozen = c.self.inside.frozen } in
    let turn = counts_turn _ (g.met.M.Medium.sound c.self.inside.medium) s c.count_covered.new.log c.count_covered.ensures in
    let runs = counts_runs {state = g.M.Medium.state} {Follows = g.M.Medium.follows} c.self.inside.medium s.log
    (rw (← c.self.view_is) at c.requires.live) c.count_covered.new.log c.count_covered.ensures in
    grind (arith, nat_tests, turn, c.count_covered.ensures, c.requires, c.self.view_is, runs)
