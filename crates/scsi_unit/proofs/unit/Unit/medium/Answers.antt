use Rattle.scsi_unit.proofs.UnitLaws.{limit_between_calls}
use Rattle.scsi_unit.proofs.unit.Unit.medium.Goals as goal

pub returns-clause-limit : goal.returns-clause-limit
returns-clause-limit g c book fits ours = limit_between_calls _ c.args.self.now book fits ours
