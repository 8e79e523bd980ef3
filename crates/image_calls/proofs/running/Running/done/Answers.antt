use Rattle.std.proofs.{Common.refl}
use Rattle.image_calls.proofs.{Handing.handed_none}
use Rattle.image_calls.proofs.running.Running.done.Goals as goal

pub returns-in-Ok-clause-hears : goal.returns-in-Ok-clause-hears
returns-in-Ok-clause-hears g c = (c.end_call.new.self, c.in-Ok.ensures.hears, c.settle.ensures.0)

pub returns-in-Ok-clause-goes_on : goal.returns-in-Ok-clause-goes_on
returns-in-Ok-clause-goes_on g c first began m n honest is =
    c.settle.ensures.1 first began m _ (c.in-Ok.ensures.goes_on first began m n honest is)

pub returns-in-Err-clause-hears : goal.returns-in-Err-clause-hears
returns-in-Err-clause-hears g c = (c.end_call.new.self, c.in-Err.ensures.hears, refl)

pub returns-in-Err-clause-goes_on : goal.returns-in-Err-clause-goes_on
returns-in-Err-clause-goes_on g c first began m n honest is = (_, c.in-Err.ensures.goes_on first began m n honest is, handed_none _)
