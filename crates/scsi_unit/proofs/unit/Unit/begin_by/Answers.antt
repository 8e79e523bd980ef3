use Rattle.std.proofs.Common.{◌≡◌, true}
use Rattle.scsi_unit.proofs.{PendingBegun.{has_room, wants_first}, WantedCommands.on_medium}
use Rattle.scsi_unit.proofs.unit.Unit.begin_by.Goals.{in_default-via-in-Room+else-has_room, in_default-via-in_default}
use Rattle.scsi_unit.proofs.unit.Unit.begin_by.Goals as goal

pub has_room-requires : goal.has_room-requires
has_room-requires g c = on_medium _ _ c.args.command c.requires.can.supported

pub returns-in-Room : goal.returns-in-Room
returns-in-Room g c out =
    let had = c.has_room.ensures.0 c.if-has_room.true in
    has_room c.args.self.now g.met.M.Medium.follows_itself g.met.M.Medium.sound c.args.command c.args.taken.now out
    had (c.accept.ensures.had had) (c.accept.ensures.step out)

pub returns-in_default : goal.returns-in_default
returns-in_default g c out =
    wants_first c.args.self.now g.met.M.Medium.follows_itself g.met.M.Medium.sound c.args.command c.args.want c.args.taken.now out
    c.requires.live c.requires.first
    (λ room had. elim c.in_default.branch [
      | in_default-via-in-Room+else-has_room w ↦
          let is : w.has_room.result ≡ true = w.has_room.ensures.1 had in absurd (let none = w.if-has_room.false in cc)
      | in_default-via-in_default w ↦ w.in_default.not-Room room
    ])
