use Rattle.std.proofs.Common.{inr}
use Rattle.usbdisk.proofs.images.showing.show_file.Goals as goal

pub returns-in-Err-show_first-clause-err : goal.returns-in-Err-show_first-clause-err
returns-in-Err-show_first-clause-err g c =
    inr (record { first = c.in-Ok.first; has = c.in-Ok.ensures.ok; so = c.in-Err-show_first.ensures.err })
