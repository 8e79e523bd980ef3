use Rattle.std.proofs.Common.{length, take, arith, rules, length-take}
use Rattle.std.specs.Prelude.{Ok, Err}
use Rattle.spec.specs.Exchange.{finished}
use Rattle.transport_laws.proofs.Packets.{packets_of-none}
use Rattle.bot_machine.proofs.UnitLaws.{keeps_writes, faulted_rests, proceeding}
use Rattle.bot_machine.proofs.{Packets.{sent_in-size, lies_sent, lies_within, some_bytes, sent_fits}, OutPackets.tells}
use Rattle.bot_machine.specs.Refinement.{line_with}
use Rattle.bot_machine.proofs.bulk_out.carry_out.Goals as goal

pub returns-in-Ok-clause-carried_out : goal.returns-in-Ok-clause-carried_out
returns-in-Ok-clause-carried_out g c = λ buffer left lies book fits.
    let out = c.carry_out.new.out in
    let case = c.args.exchange.now.case in
    let sends = rw c.as_slice.ensures.value at c.in-Ok.ensures.passes.sends in
    let room = sent_fits _ _ c.in-Ok.size (length c.args.out.now) sends c.requires.room in
    let line = rw c.as_slice.ensures.value at (c.in-Ok.ensures.serves.line book fits) in
    proceeding _ _ _ _ _ _ book line.0
    (record {
      answer = Ok (take c.in-Ok.size out);
      effect = line.1;
      moved = λ n intended. omega (arith, sends.sent n (c.requires.sends n intended), room, length-take c.in-Ok.size out);
      after = rw (
        c.size_sent-size.ensures.is,
        lies_sent case c.in-Ok.size buffer out lies,
        ← sent_in-size _ (some_bytes c.args.bulk.now.size) case c.in-Ok.size out,
      ) at
          (c.conclude.ensures.line buffer left
          (omega (arith, c.size_sent-size.ensures.is, lies_within case c.in-Ok.size buffer out lies (omega (arith, room)))));
    })
    line.2 (keeps_writes.life _ _ _ _ _ _ line.1).ours
    (rw c.as_slice.ensures.value at (c.in-Ok.ensures.serves.cuts book fits))

pub returns-in-Ok-clause-spares : goal.returns-in-Ok-clause-spares
returns-in-Ok-clause-spares g c =
    let out = c.carry_out.new.out in
    let case = c.args.exchange.now.case in
    let sends = rw c.as_slice.ensures.value at c.in-Ok.ensures.passes.sends in
    let room = sent_fits _ _ c.in-Ok.size (length c.args.out.now) sends c.requires.room in (
      Ok (take c.in-Ok.size out),
      rw c.as_slice.ensures.value at c.in-Ok.ensures.sparing,
      rw c.as_slice.ensures.value at c.in-Ok.ensures.passes.calls.bounded,
      (λ buffer lies. tells (Ok (take c.in-Ok.size out)) _ _ _ _ _ (line_with c.args.bulk.now finished)
          (c.conclude.ensures.line buffer finished
          (omega (arith, c.size_sent-size.ensures.is, lies_within case c.in-Ok.size buffer out lies (omega (arith, room)))))),
    )

pub returns-in-Ok-clause-passes : goal.returns-in-Ok-clause-passes
returns-in-Ok-clause-passes g c =
    let stays = c.in-Ok.ensures.serves.limit_stays in
    record {
      phase = c.conclude.ensures.phase _ _ (omega (arith, stays, c.in-Ok.ensures.passes.sends.most));
      limit = stays;
      size = c.conclude.ensures.size;
      few = search (rules, faulted_rests g.M.Medium.state _ _ _ _ _ c.in-Ok.ensures.sparing);
      looks = rw c.as_slice.ensures.value at c.in-Ok.ensures.passes.calls.looks;
      elapses = search rules;
      follows = c.in-Ok.ensures.passes.follows;
    }

pub returns-in-Err-clause-carried_out : goal.returns-in-Err-clause-carried_out
returns-in-Err-clause-carried_out g c = λ buffer left lies book fits.
    let line = rw c.as_slice.ensures.value at (c.in-Err.ensures.serves.line book fits) in
    proceeding _ _ _ _ _ _ book line.0
    (record {
      answer = Err c.in-Err.field-0;
      effect = line.1;
      moved = λ n intended. tt;
      after = rw (c.after_failure.ensures, packets_of-none _ (some_bytes c.args.bulk.now.size)) at
          (c.conclude-in-Err.ensures.line buffer left (omega arith));
    })
    line.2 (keeps_writes.life _ _ _ _ _ _ line.1).ours (rw c.as_slice.ensures.value at (c.in-Err.ensures.serves.cuts book fits))

pub returns-in-Err-clause-spares : goal.returns-in-Err-clause-spares
returns-in-Err-clause-spares g c = (
  Err c.in-Err.field-0,
  rw c.as_slice.ensures.value at c.in-Err.ensures.sparing,
  rw c.as_slice.ensures.value at c.in-Err.ensures.passes.calls.bounded,
  (λ buffer lies. tells (Err c.in-Err.field-0) _ _ _ _ _ (line_with c.args.bulk.now finished)
      (c.conclude-in-Err.ensures.line buffer finished (omega arith))),
)

pub returns-in-Err-clause-passes : goal.returns-in-Err-clause-passes
returns-in-Err-clause-passes g c = record {
  phase = c.conclude-in-Err.ensures.phase _ _ (omega arith);
  limit = c.in-Err.ensures.serves.limit_stays;
  size = c.conclude-in-Err.ensures.size;
  few = search (rules, faulted_rests g.M.Medium.state _ _ _ _ _ c.in-Err.ensures.sparing);
  looks = rw c.as_slice.ensures.value at c.in-Err.ensures.passes.calls.looks;
  elapses = search rules;
  follows = c.in-Err.ensures.passes.follows;
}
