use Rattle.std.proofs.Common.{refl}
use Rattle.disk_machine.proofs.Onward.{pending_serves, step_goes_on}
use Rattle.disk_machine.proofs.machine.DiskMachine.step_on.Goals as goal

pub returns : goal.returns
returns c = record {
  plays = c.step_pending.ensures;
  others = refl;
  serves = pending_serves _ _ c.requires c.step_pending.ensures refl c.rest.ensures.serves;
  goes_on = step_goes_on _ _ c.step_pending.ensures.plays refl;
}
