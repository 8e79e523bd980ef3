use Rattle.std.proofs.Common.{◌≡◌, take, vec_capacity}
use Rattle.cache.specs.Index.{numbers_of}
use Rattle.cache.proofs.parts.tell_numbers.Given as goal

abbrev pub invariant-loop-i : goal.invariant-loop-i
invariant-loop-i l = record {
  told : l.numbers.items ≡ numbers_of (take l.i l.entries);
  capacity : vec_capacity l.numbers ≡ vec_capacity l.fn.numbers;
}
