use Rattle.std.proofs.Common.{◌≡◌, ◌++◌, ℕ, List, length, take}
use Rattle.journal.specs.Sectors.{spelling}
use Rattle.journal.proofs.fields.put_all.Given as goal

abbrev pub invariant-loop-k : goal.invariant-loop-k
invariant-loop-k l = (before : List ℕ) → length before ≡ l.i → l.initial.sector ≡ spelling before
    → l.sector ≡ spelling (before ++ take l.k l.numbers)
