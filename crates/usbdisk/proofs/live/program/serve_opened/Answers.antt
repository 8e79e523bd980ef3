use Rattle.std.proofs.Common.{refl}
use Rattle.usbdisk.proofs.live.program.serve_opened.Goals as goal

pub returns-in-Ok-clause-done : goal.returns-in-Ok-clause-done
returns-in-Ok-clause-done g c = record { last = c.in-Ok.file; given = refl; served = c.in-Ok.ensures.served }

pub returns-in-Err-clause-refused : goal.returns-in-Err-clause-refused
returns-in-Err-clause-refused g c =
    rw c.with.ensures (record { last = c.in-Err.stopped.left; given = refl; refused = c.in-Err.ensures.refused })
