use Rattle.std.proofs.Common.{arith}
use Rattle.cache.proofs.Columns.{length-numbers}
use Rattle.cache.proofs.Search.{power_in_word, begins, lower, upper, stands, would_stand, within_power}
use Rattle.cache.proofs.place.search_among.Goals.{then-number-block, else-number-block}
use Rattle.cache.proofs.place.search_among.Goals as goal

pub loop-half-init : goal.loop-half-init
loop-half-init c =
    let count = length-numbers c.args.entries.now in
    let few = power_in_word c.ilog2.result c.ilog2.ensures.bound in
    let skipped = c.skip_spare-low.ensures in
    record {
      grows = skipped.grows;
      halving = begins _ c.args.block c.skip_spare-low.result _ c.ilog2.result _ _ c.requires (omega arith)
          (omega (arith, c.ilog2.ensures.power_le)) (omega (arith, c.ilog2.ensures.next_power_gt)) (omega arith)
          skipped.cases skipped.before (omega (arith, skipped.few)) (λ e. omega (arith, skipped.none e));
    }

pub loop-half-preserved : goal.loop-half-preserved
loop-half-preserved c =
    let inv = c.loop-half.invariant in
    let read = c.read_number-number.ensures in
    elim c.if-number-block.branch [
      | then-number-block w ↦ record {
        grows = omega (arith, inv.grows, read.step);
        halving = rw w.low-is (upper _ _ _ _ _ _ _ inv.halving (omega (arith, c.loop-half-test.true)) (omega (arith, inv.grows, read.step))
            _ read.value c.requires (omega (arith, w.if-number-block.true)));
      }
      | else-number-block w ↦ record {
        grows = omega (arith, inv.grows, read.step);
        halving = rw w.low-is (lower _ _ _ _ _ _ _ inv.halving (omega (arith, c.loop-half-test.true)) (omega (arith, inv.grows, read.step))
            _ read.value c.requires (omega (arith, w.if-number-block.false)));
      }
    ]

pub returns-then-found-clause-found : goal.returns-then-found-clause-found
returns-then-found-clause-found c =
    stands _ _ _ _ _ _ c.loop-half.invariant.halving (omega (arith, c.loop-half-test.false)) c.requires c.if-found.true

pub returns-else-found-clause-missing : goal.returns-else-found-clause-missing
returns-else-found-clause-missing c =
    would_stand _ _ _ _ _ _ c.loop-half.invariant.halving (omega (arith, c.loop-half-test.false)) c.requires c.if-found.false

pub returns-then-found-clause-few : goal.returns-then-found-clause-few
returns-then-found-clause-few c = within_power _ _ _ _ _ _ _ c.loop-half.invariant.grows c.loop-half.invariant.halving

pub returns-else-found-clause-few : goal.returns-else-found-clause-few
returns-else-found-clause-few c = within_power _ _ _ _ _ _ _ c.loop-half.invariant.grows c.loop-half.invariant.halving
