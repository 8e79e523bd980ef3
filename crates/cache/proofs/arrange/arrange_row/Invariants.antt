use Rattle.std.proofs.Common.{◌≡◌, ◌+◌, ◌<◌, ◌≤◌, ℕ, get_or}
use Rattle.cache.specs.Index.{numbers_of, places_of}
use Rattle.cache.specs.Order.{gathered, ArePlaces, astray}
use Rattle.cache.proofs.arrange.arrange_row.Given as goal

-- each number has the block that it had, and those before the i-th have it at their own place; a place less is away for each move
abbrev pub invariant-loop-i : goal.invariant-loop-i
invariant-loop-i l = record {
  numbers : numbers_of l.entries ≡ numbers_of l.fn.entries;
  gathered : gathered (places_of l.entries) l.row ≡ gathered (places_of l.fn.entries) l.fn.row;
  places : ArePlaces (places_of l.entries);
  settled : (k : ℕ) → k < l.i → get_or (places_of l.entries) k 0 ≡ k;
  moved : l.moves.count + astray 0 (places_of l.entries) ≤ l.fn.moves.count + astray 0 (places_of l.fn.entries);
}
