use Rattle.bot_machine.proofs.LaggingEvents.{waits_on, begins}
use Rattle.bot_machine.proofs.lagging.LaggingDisk.bulk_out.Goals as goal

pub returns-in-Some-clause-step : goal.returns-in-Some-clause-step
returns-in-Some-clause-step g c =
    let d = c.self.inside in
    rw (← c.self.view_is, c.in-Some.is)
    (waits_on _ (g.met.M.Medium.sound d.disk.unit.store.medium) d.disk c.in-Some.field-0 (rw c.in-Some.is at c.self.invariant)
    c.args.packet.now)

pub returns-in-None-clause-step : goal.returns-in-None-clause-step
returns-in-None-clause-step g c =
    rw (← c.self.view_is, c.in-None.is)
    (begins g.met.M.Medium.sound c.self.inside.disk c.begin_packet-answer.new.self c.args.packet.now _ c.begin_packet-answer.result.1
    c.begin_packet-answer.ensures)
