use Rattle.std.proofs.Common.{[], Err, refl}
use Rattle.scsi_unit.proofs.PendingBegun.{refused_begins}
use Rattle.scsi_unit.proofs.unit.Unit.begin.Goals as goal

pub returns-in-Ok : goal.returns-in-Ok
returns-in-Ok g c = rw c.in-Ok.is c.begin_command.ensures

pub returns-in-Err : goal.returns-in-Err
returns-in-Err g c =
    rw (c.in-Err.is, c.end.ensures.kept [], c.end.ensures.told)
    (refused_begins c.args.self.now g.met.M.Medium.follows_itself g.met.M.Medium.sound (Err c.in-Err.sense) c.in-Err.sense
    c.args.taken.now c.args.out.now refl)
