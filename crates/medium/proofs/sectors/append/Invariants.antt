use Rattle.std.proofs.Common.{◌≡◌, ◌++◌, vec_capacity, take}
use Rattle.medium.proofs.sectors.append.Given as goal

abbrev pub invariant-loop-write : goal.invariant-loop-write
invariant-loop-write l = record {
  items : l.list.items ≡ l.fn.list.items ++ take l.write-index l.writes;
  capacity : vec_capacity l.list ≡ vec_capacity l.fn.list;
}
