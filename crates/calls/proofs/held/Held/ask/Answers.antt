use Rattle.std.proofs.Common.{refl}
use Rattle.calls.proofs.held.Held.ask.Goals as goal

pub returns-in-Recovering : goal.returns-in-Recovering
returns-in-Recovering c =
    let same = c.deref_mut.ensures.value in
    rw c.in-Recovering.is
    (c.next.new.self, (refl, refl, refl), rw same at c.next.ensures.asks, rw same at c.next.ensures.goes_on)
