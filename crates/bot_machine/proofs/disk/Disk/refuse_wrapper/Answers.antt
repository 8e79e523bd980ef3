use Rattle.bot_machine.proofs.LaggingRefusals.{refused_wrapper}
use Rattle.bot_machine.proofs.disk.Disk.refuse_wrapper.Goals as goal

pub returns : goal.returns
returns g c =
    let d = c.self.inside in
    rw (← c.self.view_is)
    (refused_wrapper d.unit c.refuse-progress.new.self d.bulk c.settle.new.bulk c.refuse-progress.ensures.unit
    c.refuse-progress.ensures.ends
    (rw (← c.self.view_is) at c.requires.awaits.0) c.args.wanted c.requires.writes d.transfer.items c.args.exchange
    (rw (← c.self.view_is) at c.requires.awaits.1) (rw c.refuse-progress.ensures.told at c.settle.ensures.line))

pub invariant_of-self : goal.invariant_of-self
invariant_of-self g c =
    let laid = rw c.refuse-progress.ensures.told at c.settle.ensures.line in
    rw c.refuse-progress.ensures.unit (record { room = c.self.invariant.room; phase_holds = laid.phase _ _ tt })
