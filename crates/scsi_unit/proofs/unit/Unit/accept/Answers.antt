use Rattle.std.proofs.{Common.{[], arith, inl, inr}, lemmas.Bool.cases_Bool}
use Rattle.scsi_unit.proofs.{PendingSteps.{room_waits, room_fails, room_ends, room_commits, room_promises}, WantedCommands.write_taken}
use Rattle.scsi_unit.{proofs.WantedCommands.{write_within, write_some}, specs.Pending.{goes_through, transfer_of}}
use Rattle.scsi_unit.proofs.unit.Unit.accept.Goals as goal

pub write_step-requires-clause-taken : goal.write_step-requires-clause-taken
write_step-requires-clause-taken g c =
    rw c.transfer_of-transfer.ensures (write_taken c.args.command.now c.args.taken.now c.requires.can.wanted c.requires.can.taken_all)

pub write_step-requires-clause-can : goal.write_step-requires-clause-can
write_step-requires-clause-can g c =
    let can = c.requires.can in
    let some = write_some c.args.command.now c.args.taken.now can.wanted in
    rw c.transfer_of-transfer.ensures (record {
      live = c.requires.live;
      some = grind (arith, some);
      within = write_within c.args.command.now c.args.taken.now can.wanted _ _ can.supported;
    })

pub returns-in-Waits-clause-step : goal.returns-in-Waits-clause-step
returns-in-Waits-clause-step g c =
    room_waits c.args.self.now c.write_step.new.store c.args.command.now c.args.taken.now g.met.M.Medium.sound
    c.requires.live c.requires.can c.write_step.result (rw c.transfer_of-transfer.ensures at c.write_step.ensures) c.in-Waits.is

pub returns-in-Failed-clause-step : goal.returns-in-Failed-clause-step
returns-in-Failed-clause-step g c =
    rw (c.end.ensures.kept [], c.end.ensures.told)
    (room_fails c.args.self.now c.write_step.new.store c.args.command.now c.args.taken.now g.met.M.Medium.sound
    c.requires.live c.requires.can c.write_step.result (rw c.transfer_of-transfer.ensures at c.write_step.ensures) c.in-Failed.is)

pub returns-in-Accepted-clause-step : goal.returns-in-Accepted-clause-step
returns-in-Accepted-clause-step g c =
    let sound = g.met.M.Medium.sound in
    let old = c.args.self.now in
    let command = c.args.command.now in
    let taken = c.args.taken.now in
    let store = c.write_step.new.store in
    let step = rw c.transfer_of-transfer.ensures at c.write_step.ensures in
    let stage = c.write_step.result in
    rw (c.accepted.ensures.is, c.accepted.ensures.told, c.transfer_of-transfer.ensures)
    (elim c.in-Accepted.is [
      | inl at ↦ elim (cases_Bool (goes_through (transfer_of command) old.write_cache)) [
        | inl through ↦ rw through (room_commits old store command taken sound c.requires.live c.requires.can stage step at through)
        | inr plain ↦ rw plain (room_ends old store command taken sound c.requires.live c.requires.can stage step at plain)
      ]
      | inr at ↦ absurd (room_promises old store command taken sound c.requires.live c.requires.can stage step at)
    ])
