use Rattle.std.proofs.Common.{inr}
use Rattle.usbdisk.specs.images.Task.{wanted_of}
use Rattle.usbdisk.proofs.Options.{if_ok, if_err}
use Rattle.usbdisk.proofs.images.program.dispatch.Goals as goal

pub returns-in-Some-clause-done : goal.returns-in-Some-clause-done
returns-in-Some-clause-done g c = if_ok c.do_task.result
    (λ left so. (wanted_of c.in-Some.task, c.in-Some.ensures.task, so)) c.do_task.ensures.done

pub returns-in-Some-clause-refused : goal.returns-in-Some-clause-refused
returns-in-Some-clause-refused g c = if_err c.do_task.result
    (λ refused so. inr (wanted_of c.in-Some.task, c.in-Some.ensures.task, so)) c.do_task.ensures.refused
