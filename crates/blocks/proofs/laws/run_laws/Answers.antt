use Rattle.blocks.proofs.StoreRuns.{runs_join, every_store}
use Rattle.blocks.proofs.laws.run_laws.Goals as goal

pub returns : goal.returns
returns g c = record {
  joined = runs_join g.M.Medium.state g.M.Medium.follows;
  safe = every_store g.M.Medium.state g.M.Medium.follows g.met.M.Medium.sound;
}
