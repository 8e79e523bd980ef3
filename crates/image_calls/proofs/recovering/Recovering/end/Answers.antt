use Rattle.std.proofs.Common.{◌≡◌, ◌∙◌, refl, sym, ap, subst}
use Rattle.medium.specs.{Tally.none}
use Rattle.window.specs.{Window.{state_of}}
use Rattle.recovery.specs.{HoldsStart.HoldsStart, Starting.start_left, declared.starting.Starting.Starting}
use Rattle.image_calls.specs.{Recovering.{Ends, stage_of}}
use Rattle.image_calls.proofs.Recoveries.{over_left, ended, on_device, left_behind}
use Rattle.image_calls.proofs.recovering.Recovering.end.Goals.{After-end}
use Rattle.image_calls.proofs.recovering.Recovering.end.Goals as goal

-- it ended as what it holds says
ends : (c : After-end) → Ends c.args.self.now c.end.result
ends c = ended c.args.self.now c.end.result c.args.self.now.running.carried.asked refl (sym c.refusal.ensures ∙ c.in-None.is) c.requires
    (λ least start m had held. c.end.ensures.ends least start m had
    (subst (λ (s : Starting). HoldsStart state_of least (stage_of s) had start m) (sym c.machine-starting.ensures) held))

pub end-requires : goal.end-requires
end-requires c = subst (λ (s : Starting). start_left (stage_of s) ≡ none) (sym c.machine-starting.ensures)
    (over_left c.args.self.now c.args.self.now.running.carried.asked (sym c.refusal.ensures ∙ c.in-None.is) c.requires)

pub returns-in-Ok-clause-ends : goal.returns-in-Ok-clause-ends
returns-in-Ok-clause-ends c = rw c.in-Ok.is at (ends (goal.at.returns-in-Ok-clause-ends c).After-end)

pub returns-in-Err-clause-ends : goal.returns-in-Err-clause-ends
returns-in-Err-clause-ends c = rw c.in-Err.is at (ends (goal.at.returns-in-Err-clause-ends c).After-end)

pub returns-in-Ok-clause-left : goal.returns-in-Ok-clause-left
returns-in-Ok-clause-left c =
    let own = on_device c.args.self.now c.args.self.now.running.carried.asked refl (sym c.refusal.ensures ∙ c.in-None.is) c.requires in
    left_behind c.args.self.now _ (rw c.in-Ok.is at (ends (goal.at.returns-in-Ok-clause-left c).After-end))
    (λ m n is. own m n is ∙ sym (ap (λ (s : Starting). s.sectors) c.machine-starting.ensures))
