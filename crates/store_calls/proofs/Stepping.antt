-- Steps of a store in the background, one after the other.
use Rattle.std.proofs.{Common.{◌≡◌, ◌*◌, ◌+◌, ℕ, suc, Bool, true, false, refl, sym, ◌∙◌, subst, arith}, lemmas.Bool.false≢true}
use Rattle.blocks.specs.{Passing.PassesOn, StoreValue.is_dead, Turns.IsTurn, declared.work.Work.Work}
use Rattle.theorems.proofs.LogRuns.{run_none, run_then}
use Rattle.blocks.proofs.{SectorsRead.{none, looks_on}, TurnsJoined.{stays, turns}}
use Rattle.window.specs.{Window.{state_of, ComesAfter}, WindowLaws.{is_sound, comes_after_itself, comes_after_through}}
use Rattle.store_calls.specs.{Calls.IsStep, Idling.{AreSteps, IsShort}, Stores.Store}
use Rattle.store_calls.specs.Rooms.{Appends, Foresees, IsRoomy, HasRoom, HoldsLog, RefusesNothing}
use Rattle.store_calls.proofs.{Served.holds_on}

-- no step
pub none_made : (May : Store → Store → Type 0) (work : Work) (s : Store) → AreSteps May work 0 s s
none_made May work s = record {
  steps = refl;
  passes = record {
    turn = stays (state_of s.medium) s.cached (is_sound s.medium);
    calls = omega arith;
    sent = omega arith;
    none_refused = λ live. refl;
    follows = comes_after_itself s.medium;
    runs = run_none;
    looks = none (state_of s.medium) (state_of s.medium) s.cached refl;
    policy = refl;
  };
  refuses = record { kept = λ room. refl; seen = λ sight. refl; none = λ room sight. refl };
}

-- a store that is live was live
pub lived : (was is : Bool) → (was ≡ true → is ≡ true) → is ≡ false → was ≡ false
lived false is stays live = refl
lived true is stays live = absurd (false≢true (sym live ∙ stays refl))

-- calls, and then some more
joined : (first second : ℕ) (old mid new : Store) → PassesOn state_of ComesAfter IsTurn first first old mid
    → PassesOn state_of ComesAfter IsTurn second second mid new
    → PassesOn state_of ComesAfter IsTurn (first + second) (first + second) old new
joined first second old mid new a b = record {
  turn = turns (state_of old.medium) (state_of mid.medium) (state_of new.medium) old.cached mid.cached new.cached a.turn b.turn;
  calls = omega (arith, a.calls, b.calls);
  sent = omega (arith, a.sent, b.sent);
  none_refused = λ live. b.none_refused live
      ∙ a.none_refused (lived (is_dead mid.cached) (is_dead new.cached) b.turn.goes_on.dead_stays live);
  follows = comes_after_through old.medium mid.medium new.medium a.follows b.follows;
  runs = run_then a.runs b.runs;
  looks = looks_on (state_of old.medium) (state_of mid.medium) (state_of new.medium) old.cached mid.cached a.turn.goes_on
      a.looks b.looks;
  policy = b.policy ∙ a.policy;
}

-- one step more
module _ (May : Store → Store → Type 0) (work : Work) (count : ℕ) (old mid new : Store) (made : AreSteps May work count old mid)
    (short : IsShort mid) (step : IsStep work mid new) where
  -- it has room where few calls wait, and the log is in memory still
  room : IsRoomy old → HasRoom mid
  room roomy = omega (arith, roomy, short, made.passes.follows.room_stays)

  log : HoldsLog old → HoldsLog mid
  log =
      let on = made.passes.turn.goes_on in
      holds_on old mid on.keeps_stays on.layout_stays made.passes.follows.near_stays

  pub passes_on : PassesOn state_of ComesAfter IsTurn (2 * suc count) (2 * suc count) old new
  passes_on = subst (λ (n : ℕ). PassesOn state_of ComesAfter IsTurn n n old new) (omega arith)
      (joined (2 * count) 2 old mid new made.passes step.passes)

  pub refuses_on : RefusesNothing (IsRoomy old) (HoldsLog old) old.medium new.medium
  refuses_on = record {
    kept = λ roomy. step.appends.refuses.kept (room roomy) ∙ made.refuses.kept roomy;
    seen = λ sight. step.appends.refuses.seen (log sight) ∙ made.refuses.seen sight;
    none = λ roomy sight. step.appends.refuses.none (room roomy) (log sight) ∙ made.refuses.none roomy sight;
  }

  pub one_more : May mid new → AreSteps May work (count + 1) old new
  one_more may = subst (λ (n : ℕ). AreSteps May work n old new) (omega arith) (record {
    steps = (mid, made.steps, may, step);
    passes = passes_on;
    refuses = refuses_on;
  })

-- calls that come after these are appended
pub appended : (old new : Store) → Foresees old.medium → ComesAfter old.medium new.medium
    → RefusesNothing (IsRoomy old) (HoldsLog old) old.medium new.medium → Appends (IsRoomy old) old new
appended old new sees follows refuses = record {
  follows = follows;
  covers = sees.covers new.medium follows;
  parts = sees.parts new.medium follows;
  served = sees.served new.medium follows;
  refuses = refuses;
}

pub steps_append : (May : Store → Store → Type 0) (work : Work) (count : ℕ) (old new : Store) → Foresees old.medium
    → AreSteps May work count old new → Appends (IsRoomy old) old new
steps_append May work count old new sees made = appended old new sees made.passes.follows made.refuses
