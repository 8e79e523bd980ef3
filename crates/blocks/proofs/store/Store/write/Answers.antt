use Rattle.std.proofs.Common.{arith}
use Rattle.blocks.proofs.TurnsJoined.{kept_on, paid_refused, rested_paid}
use Rattle.blocks.proofs.store.Store.write.Goals as goal

pub returns-then-is_dead-clause-passes : goal.returns-then-is_dead-clause-passes
returns-then-is_dead-clause-passes g c = paid_refused (rested_paid g.met.M.Medium.follows_itself g.met.M.Medium.sound)

pub returns-then-fits-clause-passes : goal.returns-then-fits-clause-passes
returns-then-fits-clause-passes g c = kept_on g.met.M.Medium.follows_itself c.append.ensures.keeps

pub returns-then-fits-clause-cost : goal.returns-then-fits-clause-cost
returns-then-fits-clause-cost g c = let keeps = c.append.ensures.keeps.medium in
    rw keeps (grind (arith, c.append.ensures.batch, c.self.view_is, c.fits.ensures, c.if-fits.true))
