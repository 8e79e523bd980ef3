use Rattle.std.proofs.Common.{map, refl}
use Rattle.usbdisk.proofs.Refusals.{no_line_at_two, two_or_five}
use Rattle.usbdisk.proofs.Statuses.{refused_status}
use Rattle.usbdisk.proofs.runner.program.command.Goals as goal

pub returns-in-Ok-clause-other_words : goal.returns-in-Ok-clause-other_words
returns-in-Ok-clause-other_words g c not = let done = c.in-Ok.ensures.done in absurd (not (done.0, done.1))

pub returns-in-Err-clause-done : goal.returns-in-Err-clause-done
returns-in-Err-clause-done g c zero =
    absurd ((refused_status c.in-Err.stopped.refusal).some (rw c.report.ensures at zero))

pub returns-in-Err-clause-words : goal.returns-in-Err-clause-words
returns-in-Err-clause-words g c two =
    no_line_at_two _ _ _ _ (map (λ word. word.now) c.args.words.now) c.in-Err.ensures.refused
    (rw c.report.ensures at two)

pub returns-in-Err-clause-other_words : goal.returns-in-Err-clause-other_words
returns-in-Err-clause-other_words g c never =
    rw c.report.ensures (two_or_five _ _ _ _ (map (λ word. word.now) c.args.words.now) c.in-Err.ensures.refused never)

pub returns-in-Err-clause-refused : goal.returns-in-Err-clause-refused
returns-in-Err-clause-refused g c not = rw c.report.ensures (c.in-Err.stopped.refusal, refl, c.in-Err.ensures.refused)
