use Rattle.bot_machine.proofs.LaggingRefusals.{waits_faulted, pends_faulted}
use Rattle.bot_machine.proofs.disk.Disk.refuse_pending.Goals as goal

pub returns-in-Read : goal.returns-in-Read
returns-in-Read g c =
    let pending = c.args.pending in
    waits_faulted g.M.Medium.state c.args.self.now c.stop.new.self c.stop.ensures.disk c.stop.ensures.state c.stop.ensures.fits pending
    c.in-Read.is c.requires.1
    (rw c.stop.ensures.disk (pends_faulted c.args.self.now pending.wanted c.in-Read.is pending.wrapper c.requires.1))
