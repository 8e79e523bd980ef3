use Rattle.std.proofs.Common.{refl}
use Rattle.usbdisk.proofs.InOrder.{asked_none, asked_out}
use Rattle.usbdisk.proofs.images.migrating.migrate_from.Goals as goal

pub returns-in_default-clause-asks : goal.returns-in_default-clause-asks
returns-in_default-clause-asks g c = (asked_none c.args.file.now, refl)

pub returns-in_err-window-clause-asks : goal.returns-in_err-window-clause-asks
returns-in_err-window-clause-asks g c = (asked_none c.args.file.now, refl)

pub returns-in-Ok-carry_all-clause-asks : goal.returns-in-Ok-carry_all-clause-asks
returns-in-Ok-carry_all-clause-asks g c =
    (asked_out c.carry_all.ensures.carries.carried c.carry_all.ensures.runs, c.carry_all.ensures.carries.size)

pub returns-clause-asks : goal.returns-clause-asks
returns-clause-asks g c =
    (asked_out c.carry_all.ensures.carries.carried c.carry_all.ensures.runs, c.carry_all.ensures.carries.size)
