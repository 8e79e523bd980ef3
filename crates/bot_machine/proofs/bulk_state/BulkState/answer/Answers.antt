use Rattle.std.proofs.Common.{arith}
use Rattle.transport_laws.proofs.Packets.{packets_of-none}
use Rattle.bot_machine.proofs.Packets.{sent_in-size, lies_sent, lies_within, some_bytes}
use Rattle.bot_machine.proofs.bulk_state.BulkState.answer.Goals as goal

pub returns-in-Ok : goal.returns-in-Ok
returns-in-Ok c =
    let case = c.args.exchange.now.case in
    let size = c.in-Ok.size in
    rw c.in-Ok.is (record {
      line = λ buffer out left lies fits. rw (
        c.size_sent-size.ensures.is,
        lies_sent case size buffer out lies,
        ← sent_in-size _ (some_bytes c.args.self.now.size) case size out,
      ) at
          (c.conclude.ensures.line buffer left
          (omega (arith, c.size_sent-size.ensures.is, lies_within case size buffer out lies (omega (arith, fits)))));
      size = c.conclude.ensures.size;
      phase = λ limit intention few.
          c.conclude.ensures.phase limit intention (omega (arith, c.size_sent-size.ensures.most, few));
    })

pub returns-in-Err : goal.returns-in-Err
returns-in-Err c = rw c.in-Err.is (record {
  line = λ buffer out left lies fits.
      rw (c.after_failure.ensures, packets_of-none _ (some_bytes c.args.self.now.size)) at
      (c.conclude-in-Err.ensures.line buffer left (omega arith));
  size = c.conclude-in-Err.ensures.size;
  phase = λ limit intention few. c.conclude-in-Err.ensures.phase limit intention (omega arith);
})
