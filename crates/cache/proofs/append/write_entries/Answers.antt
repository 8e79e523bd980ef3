use Rattle.std.proofs.Common.{refl, arith}
use Rattle.cache.proofs.Order.{written_more}
use Rattle.cache.proofs.append.write_entries.Goals as goal

pub loop-i-preserved : goal.loop-i-preserved
loop-i-preserved c = written_more _ _ _ _ _ _ _ c.loop-i.invariant (omega arith) refl
