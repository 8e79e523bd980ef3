use Rattle.std.proofs.Common.{[], refl}
use Rattle.scsi_unit.proofs.WantedCommands.{plain_after}
use Rattle.scsi_unit.proofs.unit.Unit.committed.Goals as goal

pub returns-in-ModeSelect-clause-is : goal.returns-in-ModeSelect-clause-is
returns-in-ModeSelect-clause-is g c = rw (c.end.ensures.kept [], c.end.ensures.told, c.in-ModeSelect.is) refl

pub returns-in_default : goal.returns-in_default
returns-in_default g c =
    let not = c.in_default in
    let after = plain_after c.args.command.now c.args.self.now.write_cache not.not-Read10 not.not-Read16 not.not-ModeSelect in
    rw (c.end-in_default.ensures.kept [], c.end-in_default.ensures.told, after.0, after.1) (record { is = refl; told = refl })
