use Rattle.blocks.proofs.{FlushesOnce.headroom_stepped, TurnsJoined.rested_on}
use Rattle.blocks.proofs.store.Store.tick.Goals as goal

pub returns-then-is_dead-clause-passes : goal.returns-then-is_dead-clause-passes
returns-then-is_dead-clause-passes g c = rested_on _ g.met.M.Medium.follows_itself g.met.M.Medium.sound

pub returns-clause-headroom : goal.returns-clause-headroom
returns-clause-headroom g c on head live = headroom_stepped _ _ _ _ (rw on at c.go_on.ensures.order) head live
