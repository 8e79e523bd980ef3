use Rattle.std.proofs.{Common.{arith, refl, rules, inl, inr}, lemmas.Bool.Decides.nat_tests}
use Rattle.redo_log.proofs.RecordSteps.{few_next}
use Rattle.blocks.{specs.StoreValue.Cached, proofs.TurnsJoined.{home_fewer, brings_home, paid_turn, turn_kept}}
use Rattle.blocks.proofs.LogSteps.{home_stays}
use Rattle.blocks.proofs.store.Store.bring_home.Goals as goal

pub invariant_of-self : goal.invariant_of-self
invariant_of-self g c =
    grind (arith, nat_tests, turn_kept, home_stays, c.self.view_is, c.requires, c.home_ahead.ensures, c.self.invariant)

pub returns : goal.returns
returns g c =
    let i = c.self.inside in
    let s : Cached = record { log = i.log; active = i.active; frozen = i.frozen } in
    let away = rw (← c.self.view_is) at c.requires.away in
    let idle = rw (← c.self.view_is) at c.requires.idle in
    record {
      passes = rw (← c.self.view_is) (paid_turn i.goes_ahead c.home_ahead.result c.home_ahead.ensures (λ view. (refl, refl, refl))
          (λ sent. home_stays _ _ away (sent away)) idle.live (inr (inl c.home_ahead.ensures))
          (omega (arith, few_next i.log)) (grind (arith, nat_tests))
          (λ sent. grind (arith, nat_tests, (home_fewer s c.home_ahead.new.self away) (sent away))));
      way = rw (← c.self.view_is) (brings_home idle.live c.home_ahead.result c.home_ahead.ensures away idle.idle);
      answer = search rules;
    }
