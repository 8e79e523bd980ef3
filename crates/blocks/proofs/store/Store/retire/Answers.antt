use Rattle.std.proofs.Common.{arith, refl, rules, inl}
use Rattle.redo_log.proofs.RecordSteps.{few_next}
use Rattle.blocks.proofs.TurnsJoined.{is_retiring, passes_turn, turn_kept}
use Rattle.blocks.proofs.LogSteps.{retire_stays}
use Rattle.blocks.proofs.store.Store.retire.Goals as goal

pub invariant_of-self : goal.invariant_of-self
invariant_of-self g c =
    let called = c.retire_step.ensures in
    turn_kept c.retire_step.result called (retire_stays _ _ (λ none. (called.none none).1)) (rw (← c.self.view_is) at c.requires.idle)
    c.self.invariant

pub returns : goal.returns
returns g c =
    let called = c.retire_step.ensures in
    record {
      passes = rw (← c.self.view_is) (passes_turn c.self.inside.goes_ahead c.retire_step.result called (λ view. (refl, refl, refl))
          (retire_stays _ _ (λ none. (called.none none).1)) (rw (← c.self.view_is) at c.requires.live) (inl called)
          (omega (arith, few_next c.self.inside.log)));
      retiring = rw (← c.self.view_is) (is_retiring (rw (← c.self.view_is) at c.requires.live) c.retire_step.result called);
      answer = search rules;
      none = search rules;
      falls = search rules;
      idle = search rules;
    }
