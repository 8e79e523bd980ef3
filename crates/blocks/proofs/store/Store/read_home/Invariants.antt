use Rattle.std.{proofs.Common.{◌*◌, take}, specs.Prelude.Ok}
use Rattle.blocks.specs.Reads.{ReadsBlocks}
use Rattle.blocks.proofs.store.Store.read_home.Given as goal

abbrev pub invariant-loop-i : goal.invariant-loop-i
invariant-loop-i g l =
    ReadsBlocks g.M.Medium.state g.M.Medium.follows (Ok tt) l.address l.i (take (512 * l.i) l.to) l.fn.self l.self
