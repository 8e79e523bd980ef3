use Rattle.std.proofs.Common.{arith, refl}
use Rattle.bot_machine.specs.Refinement.{line_with}
use Rattle.bot_machine.proofs.Packets.{laid_out-front, laid_out-none, some_bytes}
use Rattle.bot_machine.proofs.bulk_state.BulkState.lay_out.Goals as goal

pub returns-then-size-gt0 : goal.returns-then-size-gt0
returns-then-size-gt0 c = record {
  line = λ buffer left room.
      laid_out-front _ (some_bytes c.args.self.now.size) buffer c.args.size c.args.halt c.is_some_halt.result c.args.status
      (line_with c.args.self.now left) c.if-size-gt0.true (omega arith) c.is_some_halt.ensures;
  size = refl;
  phase = λ limit intention few. (c.if-size-gt0.true, few);
}

pub returns-in-Some : goal.returns-in-Some
returns-in-Some c = record {
  line = λ buffer left room.
      rw (
        laid_out-none _ (some_bytes c.args.self.now.size) buffer c.args.size c.args.halt c.args.status (line_with c.args.self.now left)
            c.if-size-gt0.false,
        c.in-Some.is,
      )
      (c.halt.ensures.line buffer);
  size = c.halt.ensures.size;
  phase = λ limit intention few. rw c.halt.ensures.phase tt;
}

pub returns-in_default : goal.returns-in_default
returns-in_default c = record {
  line = λ buffer left room.
      rw (
        laid_out-none _ (some_bytes c.args.self.now.size) buffer c.args.size c.args.halt c.args.status (line_with c.args.self.now left)
            c.if-size-gt0.false,
        c.in_default.is,
      );
  size = refl;
  phase = λ limit intention few. tt;
}
