use Rattle.std.proofs.{Common.{inl, inr}, lemmas.Result.err_from_is_err_and}
use Rattle.usbdisk.proofs.Options.{if_ok, if_err}
use Rattle.usbdisk.proofs.Refusals.{comes_back, untouched}
use Rattle.usbdisk.proofs.runner.program.migrate.Goals as goal

pub returns-in_err-_streams-clause-refused : goal.returns-in_err-_streams-clause-refused
returns-in_err-_streams-clause-refused g c =
    let p = err_from_is_err_and c.from_residual.result c.from_residual.ensures.1 in
    rw (p.1, p.2.0, p.2.1) (inl (inr (inl c.in_err-_streams.ensures), untouched (g.O.Write.contents c.args.out.now)))

pub returns-in_err-medium-clause-refused : goal.returns-in_err-medium-clause-refused
returns-in_err-medium-clause-refused g c =
    let p = err_from_is_err_and c.from_residual-in_err-medium.result c.from_residual-in_err-medium.ensures.1 in
    rw (p.1, p.2.0, p.2.1) (inl (c.in_err-medium.ensures.refused, untouched (g.O.Write.contents c.args.out.now)))

pub returns-clause-done : goal.returns-clause-done
returns-clause-done g c =
    if_ok c.migrate_medium.result (λ back is. comes_back c.in_ok-medium.medium c.in_ok-medium.ensures.opened is)
    c.migrate_medium.ensures.done

pub returns-clause-refused : goal.returns-clause-refused
returns-clause-refused g c =
    if_err c.migrate_medium.result (λ stopped is. inr (comes_back c.in_ok-medium.medium c.in_ok-medium.ensures.opened is))
    c.migrate_medium.ensures.refused
