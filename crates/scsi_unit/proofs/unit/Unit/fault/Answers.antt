use Rattle.std.proofs.Common.{true, false}
use Rattle.scsi_unit.proofs.FaultedUnit.{faulted_steady}
use Rattle.scsi_unit.proofs.unit.Unit.fault.Goals as goal

pub returns-then-taken_back-clause-steady : goal.returns-then-taken_back-clause-steady
returns-then-taken_back-clause-steady g c = rw (c.stop.ensures.dead, c.fail.ensures.kept) (faulted_steady true _)

pub returns-else-taken_back-clause-steady : goal.returns-else-taken_back-clause-steady
returns-else-taken_back-clause-steady g c = rw c.stop.ensures.dead (faulted_steady false _)
