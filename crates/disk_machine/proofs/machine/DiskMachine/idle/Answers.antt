use Rattle.std.proofs.Common.{◌↔◌, ◌≡◌, Bool, false, not, IsTrue, arith}
use Rattle.disk_machine.proofs.Onward.{idle_serves}
use Rattle.disk_machine.proofs.machine.DiskMachine.idle.Goals as goal

-- some are left where not all is settled
told : (settled : Bool) (P : Type 0) → IsTrue settled ↔ P → (not settled ≡ false) ↔ P
told settled P is = grind (arith, is)

pub returns : goal.returns
returns c = record {
  stepped = c.step.ensures;
  none_left = told _ _ (rw c.disk.ensures at c.is_settled.ensures.steps);
  at_home = λ none. rw c.disk.ensures at (c.is_settled.ensures.settled (grind (arith, none)));
  serves = (idle_serves _ _ c.step.ensures).0;
  goes_on = (idle_serves _ _ c.step.ensures).1;
}
