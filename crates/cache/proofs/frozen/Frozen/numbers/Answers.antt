use Rattle.std.proofs.Common.{rules}
use Rattle.cache.proofs.Kept.{well_formed}
use Rattle.cache.proofs.frozen.Frozen.numbers.Goals as goal

pub returns : goal.returns
returns c = record {
  value = search rules;
  well_formed = rw (← c.self.view_is) (well_formed c.self.inside.parts c.self.invariant.kept);
}
