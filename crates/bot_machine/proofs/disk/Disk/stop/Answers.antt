use Rattle.std.proofs.Common.{ap}
use Rattle.scsi_unit.specs.UnitValue.{UnitValue, unit_limit}
use Rattle.bot_machine.proofs.OutPackets.{still_in_phase}
use Rattle.bot_machine.proofs.disk.Disk.stop.Goals as goal

pub invariant_of-self : goal.invariant_of-self
invariant_of-self g c =
    let d = c.self.inside in
    let steady = c.fault.ensures.steady in
    rw (ap (λ (u : UnitValue g.row.M.Denot). unit_limit u) c.fault.ensures.unit) (record {
      room = c.self.invariant.room;
      phase_holds = still_in_phase _ _ _ steady.takes steady.sends d.bulk.phase c.self.invariant.phase_holds;
    })
