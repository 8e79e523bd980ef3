use Rattle.std.proofs.Common.{◌+◌, ◌*◌, [], slice_range}
use Rattle.journal.specs.Sectors.{AreItems}
use Rattle.journal.proofs.v2.descriptor.firsts_in.Given as goal

abbrev pub invariant-loop-i : goal.invariant-loop-i
invariant-loop-i g l = AreItems l.i (λ i. slice_range l.bytes (512 * (l.from + i)) (512 * (l.from + i) + 8)) [] l.firsts.items
