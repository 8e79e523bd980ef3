use Rattle.std.proofs.Common.{refl}
use Rattle.disk_machine.proofs.{Hearing.done_safe, Onward.{goes_through, pending_goes_on, through}}
use Rattle.disk_machine.proofs.machine.DiskMachine.done.Goals as goal

pub returns-clause-is : goal.returns-clause-is
returns-clause-is c = record {
  hears = record { mid = c.hear-told.new.self; done = c.hear-told.ensures; goes = c.go_on.ensures };
  serves = λ honest. through (done_safe _ _ _ _ _ _ refl c.hear-told.ensures honest).0
      (pending_goes_on c.go_on.ensures.count _ _ c.go_on.ensures.steps).0;
  goes_on = λ honest. goes_through (done_safe _ _ _ _ _ _ refl c.hear-told.ensures honest).1
      (pending_goes_on c.go_on.ensures.count _ _ c.go_on.ensures.steps).1;
}
