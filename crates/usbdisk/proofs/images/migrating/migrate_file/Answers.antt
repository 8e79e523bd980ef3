use Rattle.std.proofs.Common.{inr}
use Rattle.usbdisk.proofs.images.migrating.migrate_file.Goals as goal

pub returns-in-Err-migrate_from-clause-err : goal.returns-in-Err-migrate_from-clause-err
returns-in-Err-migrate_from-clause-err g c =
    inr (record { first = c.in-Ok.first; has = c.in-Ok.ensures.ok; so = c.in-Err-migrate_from.ensures.err })
