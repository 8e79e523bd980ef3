use Rattle.std.proofs.Common.{arith}
use Rattle.blocks.proofs.FlushesOnce.{does_work}
use Rattle.blocks.proofs.store.Store.work.Goals as goal

pub returns-in-Ahead : goal.returns-in-Ahead
returns-in-Ahead g c = rw c.in-Ahead.is (does_work c.work_ahead.ensures)

pub returns-in-Settle : goal.returns-in-Settle
returns-in-Settle g c = rw c.in-Settle.is (does_work (grind (arith, c.tick.ensures)))

pub returns-in-WriteBack : goal.returns-in-WriteBack
returns-in-WriteBack g c = rw c.in-WriteBack.is (does_work c.write_back.ensures)
