use Rattle.bot_machine.proofs.OutPackets.{asked}
use Rattle.bot_machine.proofs.disk.Disk.setup.Goals as goal

pub returns-clause-step : goal.returns-clause-step
returns-clause-step g c =
    let disk = c.args.self.now in
    rw c.answer_request.ensures.others
    (asked _ disk c.args.packet _ _ (g.met.M.Medium.sound disk.unit.store.medium) c.answer_request.ensures.request)
