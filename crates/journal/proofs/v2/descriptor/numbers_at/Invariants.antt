use Rattle.std.proofs.Common.{◌+◌, ◌*◌}
use Rattle.journal.specs.Sectors.{number_in, AreItems}
use Rattle.journal.proofs.v2.descriptor.numbers_at.Given as goal

abbrev pub invariant-loop-i : goal.invariant-loop-i
invariant-loop-i l = AreItems l.i (λ i. number_in l.sector (4 + 2 * i)) 0 l.numbers.items
