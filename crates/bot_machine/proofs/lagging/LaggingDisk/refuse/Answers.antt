use Rattle.std.proofs.Common.{sym, ◌∙◌}
use Rattle.bot_machine.proofs.LaggingRefusals.{refuses, stops}
use Rattle.bot_machine.proofs.lagging.LaggingDisk.refuse.Goals as goal

pub returns-in-Some-clause-step : goal.returns-in-Some-clause-step
returns-in-Some-clause-step g c =
    let d = c.self.inside in
    let is = sym c.replace.ensures.value ∙ c.in-Some.is in
    let awaits = rw is at c.self.invariant in
    rw (← c.self.view_is, is)
    (refuses g.met.M.Medium.sound d.disk c.refuse_pending-self-inside.new.self c.in-Some.pending awaits
    c.refuse_pending-self-inside.result c.refuse_pending-self-inside.ensures)

pub returns-in-None-clause-step : goal.returns-in-None-clause-step
returns-in-None-clause-step g c =
    let d = c.self.inside in
    rw (← c.self.view_is, c.replace.ensures.after, sym c.replace.ensures.value ∙ c.in-None.is)
    (stops _ d.disk c.stop.new.self c.stop.ensures.disk c.stop.ensures.state c.stop.ensures.fits g.met.M.Medium.sound)
