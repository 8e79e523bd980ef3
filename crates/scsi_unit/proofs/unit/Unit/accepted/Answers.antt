use Rattle.std.proofs.Common.{[], refl}
use Rattle.scsi_unit.proofs.unit.Unit.accepted.Goals as goal

pub returns-clause-is : goal.returns-clause-is
returns-clause-is g c = rw (c.end.ensures.kept [], c.end.ensures.told) refl
