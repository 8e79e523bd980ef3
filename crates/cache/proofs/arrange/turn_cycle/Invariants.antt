use Rattle.std.proofs.Common.{◌≡◌, ◌+◌, ◌≤◌, set}
use Rattle.cache.specs.Index.{numbers_of, places_of}
use Rattle.cache.specs.Order.{away, astray}
use Rattle.cache.proofs.Order.{IsTurning}
use Rattle.cache.proofs.arrange.turn_cycle.Given as goal

-- the block aside is counted where its own place is the hole
abbrev pub invariant-loop-hole : goal.invariant-loop-hole
invariant-loop-hole l = record {
  numbers : numbers_of l.entries ≡ numbers_of l.fn.entries;
  turning : IsTurning (places_of l.fn.entries) (places_of l.entries) l.fn.row l.row l.i l.hole l.aside;
  moved : l.moves.count + astray 0 (set (places_of l.entries) l.i l.hole) + 1
      ≤ l.fn.moves.count + astray 0 (places_of l.fn.entries) + away l.i l.hole;
}

abbrev pub decreases-loop-hole : goal.decreases-loop-hole
decreases-loop-hole l = astray 0 (set (places_of l.entries) l.i l.hole)
