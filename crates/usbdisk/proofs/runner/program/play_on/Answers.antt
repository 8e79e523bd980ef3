use Rattle.std.proofs.Common.{refl}
use Rattle.usbdisk.proofs.runner.program.play_on.Goals as goal

pub returns-in-Ok-clause-done : goal.returns-in-Ok-clause-done
returns-in-Ok-clause-done g c = (c.in-Ok.medium, refl, (c.in-Ok.ensures.played, c.in-Ok.ensures.follows))

pub returns-in-Err-clause-refused : goal.returns-in-Err-clause-refused
returns-in-Err-clause-refused g c = rw c.with.ensures (
  c.in-Err.field-0.medium,
  refl,
  ((c.in-Err.field-0.fault, c.in-Err.ensures.refused, c.from.ensures), c.in-Err.ensures.follows),
)
