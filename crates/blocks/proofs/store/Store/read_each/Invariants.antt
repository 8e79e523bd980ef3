use Rattle.std.{proofs.Common.{◌+◌, ◌*◌, take}, specs.Prelude.Ok}
use Rattle.cache.specs.Places.{HasPlace}
use Rattle.blocks.specs.Reads.{ReadsBlocks}
use Rattle.blocks.proofs.store.Store.read_each.Given as goal

abbrev pub invariant-loop-i : goal.invariant-loop-i
invariant-loop-i g l = record {
  read : ReadsBlocks g.M.Medium.state g.M.Medium.follows (Ok tt) l.address l.i (take (512 * l.i) l.to) l.fn.self l.self;
  active : HasPlace l.fn.self.cached.active.numbers (l.address + l.i) l.active;
  frozen : HasPlace l.fn.self.cached.frozen.numbers (l.address + l.i) l.frozen;
}
