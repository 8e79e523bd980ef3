use Rattle.std.proofs.Common.{◌+◌, ◌*◌, [], slice_range}
use Rattle.journal.specs.Sectors.{AreItems}
use Rattle.journal.proofs.v2.descriptor.firsts_at.Given as goal

abbrev pub invariant-loop-i : goal.invariant-loop-i
invariant-loop-i l = AreItems l.i (λ i. slice_range l.sector (40 + 16 * i) (40 + 16 * i + 8)) [] l.firsts.items
