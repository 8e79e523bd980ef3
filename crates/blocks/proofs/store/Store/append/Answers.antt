use Rattle.std.proofs.Common.{◌/◌, length, refl}
use Rattle.theorems.proofs.LogRuns.{run_none}
use Rattle.blocks.proofs.TurnsJoined.{appends_write}
use Rattle.blocks.proofs.store.Store.append.Goals as goal

pub returns-clause-keeps : goal.returns-clause-keeps
returns-clause-keeps g c =
    let turn = appends_write _ (g.met.M.Medium.sound c.self.inside.medium) _ c.put.new.self c.args.address c.args.bytes.now
    (length c.args.bytes.now / 512) c.put.ensures.over.map in
    rw (← c.self.view_is) (record { turn = turn; medium = refl; runs = run_none; policy = refl })
