use Rattle.blocks.proofs.TurnsJoined.{untouched}
use Rattle.blocks.proofs.store.Store.fuse.Goals as goal

pub returns-clause-untouched : goal.returns-clause-untouched
returns-clause-untouched g c = rw (← c.self.view_is) (untouched (g.met.M.Medium.sound c.self.inside.medium) c.fuse.ensures.unchanged)
