use Rattle.disk_machine.proofs.Still.{serves_still}
use Rattle.disk_machine.proofs.machine.DiskMachine.token.Goals as goal

pub returns : goal.returns
returns c = let told = c.give_packet.ensures in (serves_still c.args.self.now _ _ _ _ _ _ _ told.1 told.2, told.3)
