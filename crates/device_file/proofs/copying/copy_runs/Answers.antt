use Rattle.std.proofs.Common.{◌+◌, ℕ, [], refl, arith, length-append, length-drop}
use Rattle.std.proofs.lemmas.List.{length-take}
use Rattle.device_file.proofs.Copies.{blocks_none, blocks_through}
use Rattle.device_file.proofs.copying.copy_runs.Goals as goal

pub returns-in-Err : goal.returns-in-Err
returns-in-Err g c = blocks_through c.args.range.count (omega arith) tt c.runs.invariant.takes c.in-Err.ensures.takes

pub runs-preserved : goal.runs-preserved
runs-preserved g c = record {
  within = omega arith;
  takes = blocks_through (c.runs.done + _) (omega arith) refl c.runs.invariant.takes c.in-Ok.ensures.takes;
  room = omega (arith, length-append {A = ℕ}, length-drop {A = ℕ}, length-take {A = ℕ});
}

pub runs-init : goal.runs-init
runs-init g c = rw c.clear.ensures
    (record { within = omega arith; takes = blocks_none c.args.range.first c.args.range.at c.args.to.now []; room = omega arith })
