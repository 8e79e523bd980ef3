use Rattle.disk_machine.proofs.Still.{serves_still}
use Rattle.disk_machine.proofs.machine.DiskMachine.setup.Goals as goal

pub returns : goal.returns
returns c = let told = c.answer_request.ensures in serves_still c.args.self.now _ _ _ _ _ _ _ told.1 told.2
