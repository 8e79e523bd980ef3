use Rattle.std.proofs.Common.{◌≡◌, ◌++◌, ℕ, List, length, take, zip, flat_map}
use Rattle.journal.specs.{Sectors.padded, Format2.entry_bytes}
use Rattle.journal.proofs.v2.descriptor.append_entries.Given as goal

abbrev pub invariant-loop-e : goal.invariant-loop-e
invariant-loop-e l = (before : List ℕ) → length before ≡ 32 → l.initial.sector ≡ padded before
    → l.sector ≡ padded (before ++ flat_map entry_bytes (take l.e (zip l.numbers l.firsts)))
