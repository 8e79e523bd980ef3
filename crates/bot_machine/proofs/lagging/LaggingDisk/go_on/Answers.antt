use Rattle.std.proofs.Common.{sym, ◌∙◌}
use Rattle.bot_machine.proofs.LaggingEvents.{goes, rests}
use Rattle.bot_machine.proofs.lagging.LaggingDisk.go_on.Goals as goal

pub returns-in-Some-clause-step : goal.returns-in-Some-clause-step
returns-in-Some-clause-step g c =
    let d = c.self.inside in
    let is = sym c.replace.ensures.value ∙ c.in-Some.is in
    let awaits = rw is at c.self.invariant in
    rw (← c.self.view_is, is)
    (goes d.disk c.advance-self-inside.new.self c.in-Some.pending awaits c.advance-self-inside.result c.advance-self-inside.ensures)

pub returns-in_default-clause-step : goal.returns-in_default-clause-step
returns-in_default-clause-step g c =
    let d = c.self.inside in
    rw (← c.self.view_is, c.replace.ensures.after, sym c.replace.ensures.value ∙ c.in_default.is)
    (rests _ (g.met.M.Medium.sound d.disk.unit.store.medium) d.disk)
