use Rattle.std.proofs.{Common.take, Common.arith, Common.rules, lemmas.Bool.Decides.nat_tests}
use Rattle.std.proofs.{lemmas.List.Sorted.IsPartitionPoint-from_clause, lemmas.List.Sorted.IsPartitionedBy-ltb}
use Rattle.std.specs.{List.Sorted.IsNonDecreasingBy, Prelude.nat_lt}
use Rattle.redo_log.proofs.index.below.Goals as goal

pub returns : goal.returns
returns c =
    let xs = take c.args.count c.args.index.now in
    let rising : IsNonDecreasingBy (λ y. y.block) xs = λ i j d le inside. grind (arith, c.requires.sorted i j d) in
    let parted = IsPartitionedBy-ltb (λ y. y.block) xs c.args.block rising in
    let point = IsPartitionPoint-from_clause (λ y. nat_lt y.block c.args.block) _ _ c.partition_point.ensures.partitioned parted
    (λ a r q k. search rules) in
    record {
      inside = c.partition_point.ensures.bound;
      before = λ i d low. grind (arith, nat_tests, point.0 i d);
      behind = λ i d high below. grind (arith, nat_tests, point.1 i d);
    }
