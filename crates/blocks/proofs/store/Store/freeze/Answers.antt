use Rattle.std.proofs.Common.{arith}
use Rattle.theorems.proofs.LogRuns.{run_none}
use Rattle.blocks.{specs.StoreValue.Cached, proofs.TurnsJoined.freezes_active}
use Rattle.blocks.proofs.store.Store.freeze.Goals as goal

pub returns : goal.returns
returns g c =
    let s : Cached = record { log = c.self.inside.log; active = c.self.inside.active; frozen = c.self.inside.frozen } in
    let turn = freezes_active _ (g.met.M.Medium.sound c.self.inside.medium) s
    (rw (← c.self.view_is) at c.requires.idle) (rw (← c.self.view_is) at c.requires.empty) in
    let runs = run_none {state = g.M.Medium.state} {Follows = g.M.Medium.follows} {log = s.log} {m = c.self.inside.medium} in
    grind (arith, turn, c.freeze.ensures, c.self.view_is, runs)
