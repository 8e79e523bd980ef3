use Rattle.std.proofs.Common.{inr}
use Rattle.usbdisk.proofs.Options.{if_ok, if_err}
use Rattle.usbdisk.proofs.live.program.serve_image.Goals as goal

pub returns-in-Ok-clause-done : goal.returns-in-Ok-clause-done
returns-in-Ok-clause-done g c =
    if_ok c.serve_opened.result (λ back live. (_, _, c.in-Some.ensures.words, (_, c.in-Ok.ensures, live))) c.serve_opened.ensures.done

pub returns-in-Ok-clause-refused : goal.returns-in-Ok-clause-refused
returns-in-Ok-clause-refused g c =
    if_err c.serve_opened.result (λ stopped why. inr (_, _, c.in-Some.ensures.words, inr (_, c.in-Ok.ensures, why)))
    c.serve_opened.ensures.refused
