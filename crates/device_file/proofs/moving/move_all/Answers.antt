use Rattle.std.proofs.Common.{◌≡◌, ◌∙◌, List, [], ◌∷◌, ◌++◌, ap, refl, sym, append_assoc}
use Rattle.window.specs.declared.call.DeviceCall.{DeviceCall}
use Rattle.window.specs.Window.{Window}
use Rattle.std.proofs.lemmas.List.{append-nil}
use Rattle.device_file.proofs.Joined.{err_is, moved_takes, moved_refused, takes_none}
use Rattle.device_file.proofs.FirstParts.{none_waits, without}
use Rattle.device_file.proofs.Puts.{first_is}
use Rattle.device_file.proofs.moving.move_all.Goals as goal

pub returns-in_err-move_call : goal.returns-in_err-move_call
returns-in_err-move_call g c =
    let gone = c.loop-call.invariant.gone in
    let (rest, is) = first_is c.loop-call.window.outbox c.in-Some.call (sym c.first.ensures ∙ c.in-Some.is) in
    rw (err_is c.from_residual.result c.from_residual.ensures.1) (record {
      takes = moved_refused c.args.first c.args.count c.args.window.now.outbox gone rest c.in-Some.call
          (c.loop-call.invariant.split ∙ ap (λ (l : List DeviceCall). gone ++ l) is) c.loop-call.invariant.takes
          c.in_err-move_call.ensures.takes;
      named = c.in_err-move_call.ensures.named;
    })

pub loop-call-preserved : goal.loop-call-preserved
loop-call-preserved g c =
    let gone = c.loop-call.invariant.gone in
    let call = c.in-Some.call in
    let (rest, is) = first_is c.loop-call.window.outbox call (sym c.first.ensures ∙ c.in-Some.is) in
    let left : c.take-call.new.self.outbox ≡ rest =
    ap (λ (w : Window). w.outbox) (c.take-call.ensures.rest ∙ without c.loop-call.window call rest is) in
    record {
      gone = gone ++ call ∷ [];
      split = c.loop-call.invariant.split
          ∙ ap (λ (l : List DeviceCall). gone ++ l) (is ∙ ap (λ (l : List DeviceCall). call ∷ l) (sym left))
          ∙ sym (append_assoc gone (call ∷ []) c.take-call.new.self.outbox);
      takes = moved_takes c.args.first c.args.count gone call c.loop-call.invariant.takes c.in_ok-move_call.ensures.takes;
    }

pub returns : goal.returns
returns g c =
    let none = none_waits c.loop-call.window.outbox (sym c.first.ensures ∙ c.in_default.is) in
    record { takes = rw (c.loop-call.invariant.split, none, append-nil) c.loop-call.invariant.takes; named = tt }

pub loop-call-init : goal.loop-call-init
loop-call-init g c = rw c.clear.ensures (record { gone = []; split = refl; takes = takes_none c.args.file.now [] })
