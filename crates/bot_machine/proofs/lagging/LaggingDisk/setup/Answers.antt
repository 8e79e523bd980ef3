use Rattle.bot_machine.proofs.LaggingRequests.{resets, asks}
use Rattle.bot_machine.proofs.lagging.LaggingDisk.setup.Goals as goal

pub returns-then-is_reset-clause-step : goal.returns-then-is_reset-clause-step
returns-then-is_reset-clause-step g c =
    let d = c.self.inside in
    rw (← c.self.view_is, c.setup.ensures.others)
    (resets _ (g.met.M.Medium.sound d.disk.unit.store.medium) d.disk c.args.packet _ _ c.setup.ensures.request
    c.setup.ensures.step.packets_stay (c.is_reset.ensures.0 c.if-is_reset.true) d.pending c.self.invariant)

pub returns-clause-step : goal.returns-clause-step
returns-clause-step g c =
    let d = c.self.inside in
    rw (← c.self.view_is, c.setup-2.ensures.others)
    (asks _ (g.met.M.Medium.sound d.disk.unit.store.medium) d.disk c.args.packet _ _ c.setup-2.ensures.request
    c.setup-2.ensures.step.packets_stay
    (λ is. let yes = c.is_reset.ensures.1 is in let no = c.if-is_reset.false in cc) d.pending c.self.invariant)
