use Rattle.std.proofs.Common.{sym}
use Rattle.window.proofs.InRing.{length_calls}
use Rattle.window.proofs.outbox.Outbox.len.Goals as goal

pub returns : goal.returns
returns c = rw (← c.self.view_is) (sym (length_calls c.self.inside.count _))
