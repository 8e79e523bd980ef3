use Rattle.std.proofs.Common.{inr, refl}
use Rattle.calls.proofs.recover.first_call.Goals as goal

pub returns-in-Ok : goal.returns-in-Ok
returns-in-Ok c = inr (c.if-sectors-eq0.false, c.new-2.result, c.new-2.ensures, (c.in-Ok.ensures.ok, refl, refl))
