use Rattle.std.proofs.Common.{arith, ◌≡◌, ◌∙◌, Ok, sym}
use Rattle.bot_machine.proofs.LaggingParts.{begins_over, begins_wants, refused_ends, can_begin, over_by, wants_by}
use Rattle.bot_machine.proofs.pending.begin.Goals.{in-Ok, in-Err}
use Rattle.bot_machine.proofs.pending.begin.Goals as goal

pub begin-progress-requires : goal.begin-progress-requires
begin-progress-requires g c =
    can_begin c.args.unit.now c.args.exchange.now c.args.taken.now c.args.out.now c.requires c.command-parsed.result
    (rw c.as_slice.ensures.value at c.command-parsed.ensures.value) c.command-parsed.ensures.supported

pub returns-in_err-want : goal.returns-in_err-want
returns-in_err-want g c =
    let over = over_by c.begin-progress.result (sym (c.in_err-want.was) ∙ c.settle.ensures.want) in
    rw c.from_residual.ensures
    (begins_over c.args.unit.now c.begin-progress.new.self c.args.exchange.now c.args.taken.now c.args.out.now c.begin-progress.new.out
    c.args.bulk.now c.settle.new.bulk c.requires (omega arith) c.command-parsed.result
    (rw c.as_slice.ensures.value at c.command-parsed.ensures.value) c.command-parsed.ensures.supported c.begin-progress.result
    c.begin-progress.ensures c.settle.ensures.line over.0 over.1)

pub unreachable-requires : goal.unreachable-requires
unreachable-requires g c =
    let wants = wants_by c.begin-progress.result c.in_ok-want.want (sym (c.in_ok-want.was) ∙ c.settle.ensures.want) in
    elim c.match-parsed.branch [
      | in-Ok w ↦ absurd (let some = w.command-is in let none = c.in-None.is in cc)
      | in-Err w ↦
          refused_ends c.args.unit.now c.begin-progress.new.self c.args.exchange.now c.args.taken.now c.args.out.now
          c.begin-progress.new.out c.args.bulk.now c.settle.new.bulk c.requires (omega arith) c.command-parsed.result
          (rw c.as_slice.ensures.value at c.command-parsed.ensures.value) c.command-parsed.ensures.supported c.begin-progress.result
          c.begin-progress.ensures c.settle.ensures.line w.in-Err.field-0 c.in_ok-want.want w.in-Err.is wants
    ]

pub returns : goal.returns
returns g c =
    let wants = wants_by c.begin-progress.result c.in_ok-want.want (sym (c.in_ok-want.was) ∙ c.settle.ensures.want) in
    let good : c.command-parsed.result ≡ Ok c.in-Some.command = elim c.match-parsed.branch [
      | in-Ok w ↦ (let some = w.command-is in let is = c.in-Some.is in let ok = w.in-Ok.is in cc)
      | in-Err w ↦ absurd (let none = w.command-is in let some = c.in-Some.is in cc)
    ] in
    begins_wants c.args.unit.now c.begin-progress.new.self c.args.exchange.now c.args.taken.now c.args.out.now c.begin-progress.new.out
    c.args.bulk.now c.settle.new.bulk c.requires (omega arith) c.command-parsed.result
    (rw c.as_slice.ensures.value at c.command-parsed.ensures.value) c.command-parsed.ensures.supported c.begin-progress.result
    c.begin-progress.ensures c.settle.ensures.line c.in-Some.command c.in_ok-want.want good wants
