use Rattle.std.proofs.{Common.{inr, map}, lemmas.Result.err_from_is_err_and}
use Rattle.usbdisk.proofs.Refusals.{not_read}
use Rattle.usbdisk.proofs.Options.{if_ok, if_err}
use Rattle.usbdisk.proofs.runner.program.dispatch.Goals as goal

pub returns-in-Format-clause-done : goal.returns-in-Format-clause-done
returns-in-Format-clause-done g c =
    if_ok c.make.result (λ back done. (_, c.in_ok-image.ensures.spelled, rw c.in-Format.is done)) c.make.ensures.done

pub returns-in-Migrate-clause-done : goal.returns-in-Migrate-clause-done
returns-in-Migrate-clause-done g c =
    if_ok c.migrate.result (λ back done. (_, c.in_ok-image.ensures.spelled, rw c.in-Migrate.is done)) c.migrate.ensures.done

pub returns-in-Run-clause-done : goal.returns-in-Run-clause-done
returns-in-Run-clause-done g c =
    if_ok c.run.result (λ back done. (_, c.in_ok-image.ensures.spelled, rw c.in-Run.is done)) c.run.ensures.done

pub returns-in-Ok-clause-done : goal.returns-in-Ok-clause-done
returns-in-Ok-clause-done g c = (_, c.in_ok-image.ensures.spelled, rw c.in-Sim.is c.in-Ok.ensures.done)

pub returns-in-Format-clause-refused : goal.returns-in-Format-clause-refused
returns-in-Format-clause-refused g c =
    if_err c.make.result (λ stopped why. inr (inr (_, c.in_ok-image.ensures.spelled, rw c.in-Format.is why))) c.make.ensures.refused

pub returns-in-Migrate-clause-refused : goal.returns-in-Migrate-clause-refused
returns-in-Migrate-clause-refused g c =
    if_err c.migrate.result (λ stopped why. inr (inr (_, c.in_ok-image.ensures.spelled, rw c.in-Migrate.is why))) c.migrate.ensures.refused

pub returns-in-Run-clause-refused : goal.returns-in-Run-clause-refused
returns-in-Run-clause-refused g c =
    if_err c.run.result (λ stopped why. inr (inr (_, c.in_ok-image.ensures.spelled, rw c.in-Run.is why))) c.run.ensures.refused

pub returns-in-Err-clause-refused : goal.returns-in-Err-clause-refused
returns-in-Err-clause-refused g c =
    rw (c.from.ensures.0, c.from.ensures.1) (inr (inr (_, c.in_ok-image.ensures.spelled, rw c.in-Sim.is c.in-Err.ensures.refused)))

pub returns-in_err-image-clause-refused : goal.returns-in_err-image-clause-refused
returns-in_err-image-clause-refused g c =
    let p = err_from_is_err_and c.from_residual.result c.from_residual.ensures.1 in
    rw (p.1, p.2.0, p.2.1)
    (not_read (g.O.Write.contents c.args.out.now) (map (λ word. word.now) c.args.words.now) _ c.in_err-image.ensures.refused)
