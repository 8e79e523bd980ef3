use Rattle.std.proofs.Common.{◌≡◌, ◌++◌, List, [], true, length}
use Rattle.device_file.specs.InRuns.{Takes}
use Rattle.window.specs.declared.call.DeviceCall.{DeviceCall}
use Rattle.device_file.specs.Copied.{moved_calls, waiting_in}
use Rattle.device_file.proofs.moving.move_all.Given as goal

abbrev pub invariant-loop-call : goal.invariant-loop-call
invariant-loop-call g l = record {
  gone : List DeviceCall;
  split : l.fn.window.outbox ≡ gone ++ l.window.outbox;
  takes : Takes g.D.DeviceFile.told g.D.DeviceFile.at_once g.D.DeviceFile.size (moved_calls l.first l.count gone) l.fn.file l.file []
      (waiting_in l.run) true;
}

abbrev pub decreases-loop-call : goal.decreases-loop-call
decreases-loop-call g l = length l.window.outbox
