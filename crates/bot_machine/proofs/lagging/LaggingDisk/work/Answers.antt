use Rattle.bot_machine.proofs.LaggingEvents.{ticks_on, works}
use Rattle.bot_machine.proofs.lagging.LaggingDisk.work.Goals as goal

pub returns-in-Some-clause-step : goal.returns-in-Some-clause-step
returns-in-Some-clause-step g c =
    let d = c.self.inside in
    rw (← c.self.view_is, c.in-Some.is)
    (ticks_on _ (g.met.M.Medium.sound d.disk.unit.store.medium) d.disk c.in-Some.field-0 (rw c.in-Some.is at c.self.invariant))

pub returns-in-None-clause-step : goal.returns-in-None-clause-step
returns-in-None-clause-step g c =
    rw (← c.self.view_is, c.in-None.is) (works c.args.work _ _ _ _ c.work.ensures.step)
