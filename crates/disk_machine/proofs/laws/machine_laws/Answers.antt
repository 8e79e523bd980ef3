use Rattle.disk_machine.proofs.{Living.{serves_throughout, events_run, device_met}, Waiting.never_stuck}
use Rattle.disk_machine.proofs.laws.machine_laws.Goals as goal

pub returns-clause-serves : goal.returns-clause-serves
returns-clause-serves c = serves_throughout

pub returns-clause-runs : goal.returns-clause-runs
returns-clause-runs c = events_run

pub returns-clause-device : goal.returns-clause-device
returns-clause-device c = device_met

pub returns-clause-waits : goal.returns-clause-waits
returns-clause-waits c = never_stuck
