use Rattle.std.proofs.Common.{◌+◌, ◌*◌, [], slice_range}
use Rattle.journal.specs.Sectors.{AreItems}
use Rattle.redo_log.proofs.firsts.add_firsts.Given as goal

abbrev pub invariant-loop-i : goal.invariant-loop-i
invariant-loop-i l = AreItems l.i (λ i. slice_range l.bytes (512 * i) (512 * i + 8)) [] l.firsts.items
