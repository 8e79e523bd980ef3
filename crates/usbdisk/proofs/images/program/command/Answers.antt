use Rattle.usbdisk.proofs.Statuses.{refused_status}
use Rattle.usbdisk.proofs.images.program.command.Goals as goal

pub returns-in-Err-clause-statuses : goal.returns-in-Err-clause-statuses
returns-in-Err-clause-statuses g c = rw c.refuse.ensures.is (refused_status c.in-Err.stopped.refusal).most

pub returns-in-Err-clause-done : goal.returns-in-Err-clause-done
returns-in-Err-clause-done g c = λ none.
    absurd ((refused_status c.in-Err.stopped.refusal).some (rw c.refuse.ensures.is at none))
