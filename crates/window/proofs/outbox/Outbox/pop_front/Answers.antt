use Rattle.std.proofs.Common.{ap, arith, vec_len}
use Rattle.window.proofs.InRing.{queue, left}
use Rattle.window.proofs.outbox.Outbox.pop_front.Goals as goal

pub returns : goal.returns
returns c = let next = rw c.len.ensures at c.place_of-self-inside.ensures in rw (← c.self.view_is)
    (ap (queue (vec_len c.self.inside.kinds)) (left c.self.inside c.place_of-self-inside.result (omega arith) next))
