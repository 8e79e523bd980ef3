use Rattle.std.proofs.Common.{inl, inr}
use Rattle.usbdisk.proofs.images.exporting.ready_to_copy.Goals as goal

pub returns-in-Ok-copy_room-clause-ok : goal.returns-in-Ok-copy_room-clause-ok
returns-in-Ok-copy_room-clause-ok g c =
    record { first = c.in-Ok.first; has = c.in-Ok.ensures.ok; so = c.in-Ok-recover_in_window.ensures.ok }

pub returns-in-Err-clause-err : goal.returns-in-Err-clause-err
returns-in-Err-clause-err g c = inl c.in-Err.ensures.err

pub returns-in-Err-recover_in_window-clause-err : goal.returns-in-Err-recover_in_window-clause-err
returns-in-Err-recover_in_window-clause-err g c =
    inr (record { first = c.in-Ok.first; has = c.in-Ok.ensures.ok; so = c.in-Err-recover_in_window.ensures.err })

pub returns-in-Err-copy_room-clause-err : goal.returns-in-Err-copy_room-clause-err
returns-in-Err-copy_room-clause-err g c =
    inr (record { first = c.in-Ok.first; has = c.in-Ok.ensures.ok; so = inl c.in-Err-copy_room.ensures.err })
