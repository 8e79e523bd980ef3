use Rattle.disk_machine.proofs.Onward.{ahead_serves}
use Rattle.disk_machine.proofs.machine.DiskMachine.work_ahead.Goals as goal

pub returns : goal.returns
returns c = record {
  gone = c.go_ahead.ensures;
  serves = (ahead_serves _ _ c.go_ahead.ensures).0;
  goes_on = (ahead_serves _ _ c.go_ahead.ensures).1;
}
