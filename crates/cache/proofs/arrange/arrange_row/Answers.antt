use Rattle.std.proofs.Common.{arith, rules}
use Rattle.cache.specs.Index.{places_of}
use Rattle.cache.proofs.Columns.{length-places}
use Rattle.cache.proofs.Order.{astray_most}
use Rattle.cache.proofs.arrange.arrange_row.Goals as goal

pub returns : goal.returns
returns c = record {
  keeps = search rules;
  in_order = λ k lt. c.loop-i.invariant.settled k (omega (arith, length-places c.loop-i.entries));
  few = omega (arith, astray_most 0 (places_of c.args.entries.now), c.loop-i.invariant.moved);
}
