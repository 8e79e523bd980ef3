use Rattle.std.proofs.Common.{◌≡◌, length, true}
use Rattle.device_file.specs.Outbox.{IsCarriedOut}
use Rattle.device_file.specs.InRuns.{AsksInRuns}
use Rattle.device_file.proofs.carrying.carry_out.Given as goal

abbrev pub invariant-loop-call : goal.invariant-loop-call
invariant-loop-call g l =
    IsCarriedOut true (g.D.DeviceFile.told l.initial.file) (g.D.DeviceFile.told l.file) l.initial.window l.window
    × (g.D.DeviceFile.size l.file ≡ g.D.DeviceFile.size l.initial.file)
    × AsksInRuns (g.D.DeviceFile.at_once) l.initial.file l.file l.initial.window.outbox l.window.outbox

abbrev pub decreases-loop-call : goal.decreases-loop-call
decreases-loop-call g l = length l.window.outbox
