use Rattle.std.proofs.Common.{inr, refl}
use Rattle.usbdisk.proofs.images.showing.show.Goals as goal

pub returns-in-Err-clause-refused : goal.returns-in-Err-clause-refused
returns-in-Err-clause-refused g c = rw c.with.ensures (inr (record {
  file = c.in_ok-file.file;
  opened = record { given = refl; opened = c.in_ok-file.ensures.ok };
  not_shown = c.in-Err.ensures.err;
}))

pub returns-in-Ok-clause-done : goal.returns-in-Ok-clause-done
returns-in-Ok-clause-done g c = record {
  file = c.in_ok-file.file;
  opened = record { given = refl; opened = c.in_ok-file.ensures.ok };
  shown = c.in-Ok.ensures.ok;
}
