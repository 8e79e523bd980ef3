use Rattle.std.proofs.Common.{arith}
use Rattle.scsi_unit.proofs.start.start_store.Goals as goal

pub returns-in-Late : goal.returns-in-Late
returns-in-Late g c = rw c.in-Late.is (grind (arith, c.start.ensures))

pub returns-in-Ahead : goal.returns-in-Ahead
returns-in-Ahead g c = rw c.in-Ahead.is (grind (arith, c.start_ahead.ensures))

pub returns-in-Kept : goal.returns-in-Kept
returns-in-Kept g c = rw c.in-Kept.is (grind (arith, c.start_keeping.ensures))
