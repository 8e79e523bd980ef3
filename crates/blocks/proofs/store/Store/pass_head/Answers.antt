use Rattle.std.proofs.{Common.{arith, refl, inr}, lemmas.Bool.Decides.nat_tests}
use Rattle.blocks.{specs.StoreValue.Cached, proofs.TurnsJoined.{past_fewer, passes_head, paid_turn, turn_kept}}
use Rattle.blocks.proofs.LogSteps.{past_stays}
use Rattle.blocks.proofs.store.Store.pass_head.Goals as goal

pub invariant_of-self : goal.invariant_of-self
invariant_of-self g c =
    let called = c.head_ahead.ensures in
    turn_kept c.head_ahead.result called
    (past_stays _ _ c.is_retired.ensures.owes (λ none. (called.none none).1)) (rw (← c.self.view_is) at c.requires.idle) c.self.invariant

pub returns : goal.returns
returns g c =
    let i = c.self.inside in
    let s : Cached = record { log = i.log; active = i.active; frozen = i.frozen } in
    let called = c.head_ahead.ensures in
    let stays = past_stays _ _ c.is_retired.ensures.owes (λ none. (called.none none).1) in
    record {
      passes = rw (← c.self.view_is) (paid_turn i.goes_ahead c.head_ahead.result called (λ view. (refl, refl, refl)) stays
          (rw (← c.self.view_is) at c.requires.live) (inr (inr called))
          (grind (arith, nat_tests)) (grind (arith, nat_tests)) (past_fewer s c.head_ahead.new.self (λ none. (called.none none).1)));
      way = rw (← c.self.view_is) (passes_head (rw (← c.self.view_is) at c.requires.live) c.head_ahead.result called
          (rw (← c.self.view_is) at c.requires.idle));
      answer = grind (arith, c.match-head_ahead.branch, called.answers, stays, c.requires.live, c.self.view_is);
    }
