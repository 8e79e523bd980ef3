use Rattle.std.proofs.Common.{sym, ◌∙◌, ap}
use Rattle.medium.specs.Sim.{Sim}
use Rattle.bot_machine.proofs.LifeActions.{event_ends, event_is_cut, event_off}
use Rattle.bot_machine.proofs.lives.disk_state.play_on.Goals as goal

pub returns-then-is_off-clause-goes_on : goal.returns-then-is_off-clause-goes_on
returns-then-is_off-clause-goes_on c = λ device.
    event_off device c.args.disk.now c.args.event.now
    (sym (ap (λ (m : Sim). m.power.off) c.medium.ensures.is) ∙ sym c.is_off.ensures ∙ c.if-is_off.true)

pub returns-then-is_off-2-clause-goes_on : goal.returns-then-is_off-2-clause-goes_on
returns-then-is_off-2-clause-goes_on c = λ device.
    event_is_cut device c.args.disk.now c.answer_to-answer.new.disk c.args.event.now c.answer_to-answer.result
    c.answer_to-answer.ensures.step c.answer_to-answer.ensures.follows.medium
    (sym (ap (λ (m : Sim). m.power.off) c.medium.ensures.is) ∙ sym c.is_off.ensures ∙ c.if-is_off.false)
    (sym (ap (λ (m : Sim). m.power.off) c.medium-2.ensures.is) ∙ sym c.is_off-2.ensures ∙ c.if-is_off-2.true)

pub returns-clause-goes_on : goal.returns-clause-goes_on
returns-clause-goes_on c = λ device.
    event_ends device c.args.disk.now c.answer_to-answer.new.disk c.args.event.now c.answer_to-answer.result
    c.answer_to-answer.ensures.step c.answer_to-answer.ensures.follows.medium
    (sym (ap (λ (m : Sim). m.power.off) c.medium.ensures.is) ∙ sym c.is_off.ensures ∙ c.if-is_off.false)
    (sym (ap (λ (m : Sim). m.power.off) c.medium-2.ensures.is) ∙ sym c.is_off-2.ensures ∙ c.if-is_off-2.false)
