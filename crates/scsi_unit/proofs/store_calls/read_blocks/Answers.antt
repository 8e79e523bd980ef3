use Rattle.std.proofs.{Common.arith, lemmas.Grind.common_steps}
use Rattle.scsi_unit.proofs.store_calls.read_blocks.Goals as goal

pub returns-in-Ok : goal.returns-in-Ok
returns-in-Ok g c = grind (arith, common_steps, c.in-Ok.ensures)
