use Rattle.std.proofs.Common.{refl}
use Rattle.usbdisk.proofs.images.importing.become_image.Goals as goal

pub returns-in-Ok : goal.returns-in-Ok
returns-in-Ok g c = record { asked = c.in-Ok.ensures.asked; size = c.in-Ok.ensures.size; named = tt }

pub returns-in-Err : goal.returns-in-Err
returns-in-Err g c = record {
  asked = c.in-Err.ensures.asked;
  size = c.in-Err.ensures.size;
  named = (c.in-Err.fault, refl);
}
