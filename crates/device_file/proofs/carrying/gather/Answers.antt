use Rattle.std.proofs.Common.{◌≡◌, ◌∙◌, Some, ap, sym, inr, rules}
use Rattle.window.specs.declared.call.DeviceCall.{DeviceCall}
use Rattle.window.specs.declared.call.DeviceCall.TheVariants.{Flush}
use Rattle.device_file.proofs.InRuns.{all_waited, flush_waits, write_waits, is_full, one_taken}
use Rattle.device_file.proofs.carrying.gather.Goals as goal

pub calls-preserved : goal.calls-preserved
calls-preserved c =
    let before = c.calls.invariant in
    let taken = one_taken c.calls.run c.take.new.self c.args.window.now c.calls.window c.take-taken.new.self c.in-Some-Write.write
    c.calls.counter before.0 before.1
    (sym c.first.ensures ∙ c.in-Some-Write.is ∙ ap (λ (call : DeviceCall). Some call) c.in-Some-Write.field-0-is)
    c.take-taken.ensures.rest c.if-not-take.ensures.taken in
    (taken.0, taken.1, inr taken.2)

pub returns-in_default-clause-longest : goal.returns-in_default-clause-longest
returns-in_default-clause-longest c =
    let is : c.in_default.field-0 ≡ Flush = search rules in
    flush_waits c.calls.run c.calls.counter c.calls.invariant.1 c.calls-test.true c.calls.window.outbox
    (sym c.first.ensures ∙ c.in_default.is ∙ ap (λ (call : DeviceCall). Some call) is)

pub returns-in_default-2-clause-longest : goal.returns-in_default-2-clause-longest
returns-in_default-2-clause-longest c =
    all_waited c.calls.run c.calls.counter c.calls.invariant.1 c.calls-test.true c.calls.window.outbox
    (sym c.first.ensures ∙ c.in_default.is)

pub returns-then-not-take-clause-longest : goal.returns-then-not-take-clause-longest
returns-then-not-take-clause-longest c =
    write_waits c.calls.run c.calls.counter c.calls.invariant.1 c.calls-test.true c.calls.window.outbox c.in-Some-Write.write
    c.take.new.self (sym c.first.ensures ∙ c.in-Some-Write.is ∙ ap (λ (call : DeviceCall). Some call) c.in-Some-Write.field-0-is)
    c.if-not-take.ensures.no_more c.if-not-take.ensures.left

pub returns-clause-longest : goal.returns-clause-longest
returns-clause-longest c = is_full c.calls.run c.calls.counter c.calls.window.outbox c.calls.invariant.1 c.calls.auto.counter-end
    c.calls-test.false
