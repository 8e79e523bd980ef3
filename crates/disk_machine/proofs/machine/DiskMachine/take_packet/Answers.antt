use Rattle.std.proofs.Common.{inr}
use Rattle.disk_machine.proofs.Onward.{out_serves}
use Rattle.disk_machine.proofs.machine.DiskMachine.take_packet.Goals as goal

pub returns : goal.returns
returns c = inr (c.requires, out_serves _ _ _ _ c.play.ensures)
