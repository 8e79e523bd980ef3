use Rattle.std.proofs.Common.{◌≤◌, ◌-◌}
use Rattle.redo_log.proofs.LeavingIndex.{AreSeen}
use Rattle.redo_log.proofs.index.keep_others.Given as goal

abbrev pub invariant-loop-at : goal.invariant-loop-at
invariant-loop-at l = record { seen : AreSeen l.slot l.fn.index l.to l.at l.index; inside : l.at ≤ l.end }

abbrev pub decreases-loop-at : goal.decreases-loop-at
decreases-loop-at l = l.end - l.at
