use Rattle.std.proofs.Common.{suc, sym, ◌∙◌, false, true, Err}
use Rattle.std.proofs.lemmas.Result.{err_from_is_err_and}
use Rattle.device_file.specs.Outbox.{CarriesOut}
use Rattle.device_file.proofs.FirstParts.{none_waits, carried_through, ends_through}
use Rattle.device_file.proofs.carrying.carry_out.Goals as goal

pub returns-clause-runs : goal.returns-clause-runs
returns-clause-runs g c = c.loop-call.invariant.2

pub returns-clause-carries : goal.returns-clause-carries
returns-clause-carries g c = record {
  carried = c.loop-call.invariant.0;
  all = none_waits c.loop-call.window.outbox (sym c.first.ensures ∙ c.in_default.is);
  size = c.loop-call.invariant.1;
  named = tt;
}

pub returns-in_err-carry_first-clause-runs : goal.returns-in_err-carry_first-clause-runs
returns-in_err-carry_first-clause-runs g c =
    let before = c.loop-call.invariant.2 in
    (suc before.0, (c.loop-call.file, c.loop-call.window.outbox, before.1, c.carry_first.ensures.run))

pub returns-in_err-carry_first-clause-carries : goal.returns-in_err-carry_first-clause-carries
returns-in_err-carry_first-clause-carries g c =
    let told = g.D.DeviceFile.told in
    let before = c.loop-call.invariant.0 in
    let p = err_from_is_err_and c.from_residual.result c.from_residual.ensures.1 in
    let some = c.in_err-carry_first.ensures.some in
    let stops : CarriesOut told g.D.DeviceFile.size c.args.file.now c.carry_first.new.file c.args.window.now c.carry_first.new.window
    (Err c.in_err-carry_first.field-0.0) = record {
      carried = carried_through false (told c.args.file.now) (told c.loop-call.file) (told c.carry_first.new.file) c.args.window.now
          c.loop-call.window c.carry_first.new.window before some.carried;
      all = tt;
      size = some.size ∙ c.loop-call.invariant.1;
      named = ends_through before.part some.carried.part c.in_err-carry_first.field-0.0.call some.named;
    } in
    rw (p.1, p.2) stops

pub loop-call-preserved : goal.loop-call-preserved
loop-call-preserved g c =
    let told = g.D.DeviceFile.told in
    let before = c.loop-call.invariant in
    let some = c.in_ok-carry_first.ensures.some in (
      carried_through true (told c.args.file.now) (told c.loop-call.file) (told c.carry_first.new.file) c.args.window.now
          c.loop-call.window c.carry_first.new.window before.0 some.carried,
      some.size ∙ before.1,
      (suc before.2.0, (c.loop-call.file, c.loop-call.window.outbox, before.2.1, c.carry_first.ensures.run)),
    )
