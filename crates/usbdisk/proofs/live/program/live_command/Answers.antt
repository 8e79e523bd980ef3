use Rattle.std.proofs.Common.{refl, arith}
use Rattle.usbdisk.proofs.Statuses.{refused_status}
use Rattle.usbdisk.proofs.LiveRefusals.{no_line_at_two, two_without_line, three_unasked}
use Rattle.usbdisk.proofs.live.program.live_command.Goals as goal

pub returns-in-Ok-clause-words : goal.returns-in-Ok-clause-words
returns-in-Ok-clause-words g c =
    let done = c.in-Ok.ensures.done in
    (λ two. absurd (omega (arith, two)), λ never. absurd (never (done.0, done.1, done.2)))

pub returns-in-Ok-clause-statuses : goal.returns-in-Ok-clause-statuses
returns-in-Ok-clause-statuses g c = record { most = omega arith; unasked = λ three. absurd (omega (arith, three)) }

pub returns-in-Err : goal.returns-in-Err
returns-in-Err g c =
    let status = refused_status c.in-Err.stopped.refusal in
    let why = c.in-Err.ensures.refused in
    rw c.report.ensures (record {
      statuses = record { most = status.most; unasked = three_unasked _ _ _ _ _ _ _ _ why };
      done = λ zero. absurd (status.some zero);
      words = (no_line_at_two _ _ _ _ _ _ _ _ why, two_without_line _ _ _ _ _ _ _ _ why);
      refused = λ not. (c.in-Err.stopped.refusal, refl, why);
      calls = c.foresee-in-Err.ensures;
    })
