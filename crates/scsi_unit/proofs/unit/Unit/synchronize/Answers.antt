use Rattle.std.proofs.Common.{arith}
use Rattle.scsi_unit.proofs.{CommandCalls.synced, PerformedCommands.synchronizes}
use Rattle.scsi_unit.proofs.unit.Unit.synchronize.Goals as goal

pub returns-clause-performs : goal.returns-clause-performs
returns-clause-performs g c range taken = synchronizes c.requires.live c.synchronize_if.result c.synchronize_if.ensures

pub returns-clause-bounded : goal.returns-clause-bounded
returns-clause-bounded g c = synced c.requires.live c.synchronize_if.ensures (omega arith)
