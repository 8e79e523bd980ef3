use Rattle.disk_machine.proofs.PacketRuns.{sends_run}
use Rattle.disk_machine.proofs.machine.DiskMachine.give_run.Goals as goal

pub returns : goal.returns
returns c =
    let run = c.bulk_in_run in
    sends_run c.args.self.now c.args.room.now run.new.room run.new.self run.result run.ensures run.auto.room
