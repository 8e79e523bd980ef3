use Rattle.std.proofs.{Common.{refl, inl, inr}, lemmas.Result.err_from_is_err_and}
use Rattle.usbdisk.proofs.Refusals.{untouched}
use Rattle.usbdisk.proofs.runner.program.sim.Goals as goal

pub returns-in_err-_streams-clause-refused : goal.returns-in_err-_streams-clause-refused
returns-in_err-_streams-clause-refused g c =
    let p = err_from_is_err_and c.from_residual.result c.from_residual.ensures.1 in
    rw (p.1, p.2) (inl (inr (inl c.in_err-_streams.ensures), untouched (g.O.Write.contents c.args.out.now)))

pub returns-in_err-medium-clause-refused : goal.returns-in_err-medium-clause-refused
returns-in_err-medium-clause-refused g c =
    let p = err_from_is_err_and c.from_residual-in_err-medium.result c.from_residual-in_err-medium.ensures.1 in
    rw (p.1, p.2) (inl (c.in_err-medium.ensures, untouched (g.O.Write.contents c.args.out.now)))

pub returns-in_default-clause-refused : goal.returns-in_default-clause-refused
returns-in_default-clause-refused g c = inl (inr (inl refl), untouched (g.O.Write.contents c.args.out.now))

pub sim_script-requires : goal.sim_script-requires
sim_script-requires g c =
    rw c.in_ok-medium.ensures.2 (record { rests = record { on = refl; flushed = refl }; unfused = refl })

pub returns-in-Ok-sim_script-clause-done : goal.returns-in-Ok-sim_script-clause-done
returns-in-Ok-sim_script-clause-done g c =
    let image = c.in_ok-medium.ensures in
    let played = rw image.2 at c.in-Ok-sim_script.ensures.played in
    record { none = refl; image = image.0; is_image = image.1; left = _; after = _; played = played }

pub returns-clause-refused : goal.returns-clause-refused
returns-clause-refused g c =
    let image = c.in_ok-medium.ensures in
    rw c.from.ensures (inr (record {
      none = refl;
      image = image.0;
      is_image = image.1;
      left = _;
      fault = _;
      after = _;
      refused = rw image.2 at c.in-Err.ensures.refused;
      told = refl;
    }))
