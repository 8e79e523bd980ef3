use Rattle.disk_machine.proofs.Handing.{asks_safe}
use Rattle.disk_machine.proofs.machine.DiskMachine.next.Goals as goal

pub returns-in-Nothing-clause-asks : goal.returns-in-Nothing-clause-asks
returns-in-Nothing-clause-asks c = c.ask.ensures c.in-Nothing.is c.requires

pub returns-in-Nothing-clause-stays : goal.returns-in-Nothing-clause-stays
returns-in-Nothing-clause-stays c = asks_safe _ _ _ _ _ (c.ask.ensures c.in-Nothing.is c.requires)
