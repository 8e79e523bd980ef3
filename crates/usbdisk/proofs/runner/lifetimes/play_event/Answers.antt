use Rattle.std.proofs.{Common.◌∙◌, lemmas.Result.err_from_is_err_and}
use Rattle.usbdisk.proofs.LifeActions.{acted-event, tells-event, breaks-start, breaks-writer}
use Rattle.usbdisk.proofs.runner.lifetimes.play_event.Goals as goal

pub returns-in-Ok-clause-played : goal.returns-in-Ok-clause-played
returns-in-Ok-clause-played g c =
    let told = c.in_ok-answer.ensures.ok in
    tells-event (g.W.Write.contents c.args.out.now) (g.W.Write.contents c.write_out.new.out)
    (acted-event c.args.lives.now c.event.new.self c.args.event.now c.in_ok-answer.answer told.goes_on told.off c.event.ensures.follows)
    (rw (c.as_slice.ensures.value ∙ c.event_line.ensures) at c.in-Ok.ensures.ok)

pub returns-in-Err-clause-broken : goal.returns-in-Err-clause-broken
returns-in-Err-clause-broken g c =
    let told = c.in_ok-answer.ensures.ok in
    breaks-writer (g.W.Write.contents c.args.out.now) (g.W.Write.contents c.write_out.new.out)
    (acted-event c.args.lives.now c.event.new.self c.args.event.now c.in_ok-answer.answer told.goes_on told.off c.event.ensures.follows)
    (rw (c.as_slice.ensures.value ∙ c.event_line.ensures) at c.in-Err.ensures.err)

pub returns-in_err-answer-clause-broken : goal.returns-in_err-answer-clause-broken
returns-in_err-answer-clause-broken g c =
    let p = err_from_is_err_and c.from_residual.result c.from_residual.ensures.1 in
    rw (p.1, p.2)
    (breaks-start (g.W.Write.contents c.args.out.now) c.args.lives.now c.event.new.self c.args.event.now c.in_err-answer.field-0.0
    c.in_err-answer.ensures.err)
