use Rattle.std.proofs.Common.{sym, subst}
use Rattle.spec.specs.Exchange.{Script}
use Rattle.bot_machine.specs.LaggingParts.{PendsOnLine, disk_of}
use Rattle.bot_machine.proofs.{LaggingPackets.left_data, LaggingGoing.not_reading, LaggingRefusals.refused_data}
use Rattle.bot_machine.proofs.disk.Disk.refuse_data.Goals as goal

pub returns : goal.returns
returns g c =
    let d = c.self.inside in
    let t = c.in-DataOut.taking in
    let is = sym c.in-DataOut.ensures.value in
    let p = subst (λ (l : Script). PendsOnLine l (disk_of d.unit d.bulk d.transfer.items) c.args.wanted)
    (left_data d.bulk d.transfer.items t is) (rw (← c.self.view_is) at c.requires.1) in
    rw (← c.self.view_is)
    (refused_data d.unit c.refuse-progress.new.self d.bulk c.settle.new.bulk c.refuse-progress.ensures.unit c.refuse-progress.ensures.ends
    (rw (← c.self.view_is) at c.requires.0) c.args.wanted
    (not_reading _ _ _ d.unit.write_cache p.2.room p.2.can.wanted) d.transfer.items t is p.1 p.2
    (rw (c.refuse-progress.ensures.told, c.replace.ensures.after) at c.settle.ensures.line))

pub invariant_of-self : goal.invariant_of-self
invariant_of-self g c =
    let laid = rw c.refuse-progress.ensures.told at c.settle.ensures.line in
    rw c.refuse-progress.ensures.unit (record { room = c.self.invariant.room; phase_holds = laid.phase _ _ tt })
