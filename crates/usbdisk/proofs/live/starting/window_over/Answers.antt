use Rattle.std.proofs.Common.{inl}
use Rattle.usbdisk.proofs.live.starting.window_over.Goals as goal

pub returns-in-Ok-into_window-clause-ok : goal.returns-in-Ok-into_window-clause-ok
returns-in-Ok-into_window-clause-ok g c = record {
  first = c.in-Ok.first;
  size_is = c.in-Ok.ensures.ok.0;
  spells = c.in-Ok.ensures.ok.1;
  read = c.in-Ok.ensures.read;
  is = rw c.room_to_serve-room.ensures at c.in-Ok-into_window.ensures.ok;
}

pub returns-in-Err-clause-err : goal.returns-in-Err-clause-err
returns-in-Err-clause-err g c = inl (c.in-Err.fault, c.in-Err.ensures.err, c.from.ensures)
