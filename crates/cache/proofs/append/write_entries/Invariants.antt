use Rattle.cache.specs.Index.{no_entry, entry_after}
use Rattle.cache.specs.Order.{IsWrittenFrom}
use Rattle.cache.proofs.append.write_entries.Given as goal

abbrev pub invariant-loop-i : goal.invariant-loop-i
invariant-loop-i l = IsWrittenFrom l.fn.cells l.cells l.from l.i (entry_after l.first) no_entry
