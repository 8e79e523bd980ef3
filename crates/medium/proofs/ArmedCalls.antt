-- A fuse and a failure over whole runs of calls.
use Rattle.std.proofs.Common.{◌≡◌, ◌⊎◌, ◌<◌, ◌≤◌, ℕ, ◌+◌, ◌-◌, Bool, true, false, not, ◌&&◌, ◌==◌, List, [], ◌∷◌}
use Rattle.std.proofs.Common.{Option, Some, None, inl, inr}
use Rattle.std.proofs.Common.{if◌then◌else◌, nat_lt, refl, sym, subst, ◌∙◌, ap, arith}
use Rattle.std.proofs.lemmas.Bool.{cases_Bool, false≢true, lt-ltb, le-ltb, cases_lt, and_parts}
use Rattle.std.proofs.lemmas.Bool.Decides.{nat_tests}
use Rattle.medium.specs.Arming.{changes, FuseFalls, FailureCountsDown, UnarmedRefusesNothing}
use Rattle.medium.specs.Power as power
use Rattle.medium.specs.Power.{is_fused, is_used_up, is_failing, burnt, counted_down, admits, is_armed, faults_in}
use Rattle.medium.specs.Sim.{Sim, SimCall, reading, writing, flushing, fits, after_write, Flushes, Makes, MakeAll}
use Rattle.medium.specs.Tally.{Tally, of_all, one_more}
use Rattle.medium.specs.declared.fault.MediumFault.{MediumFault}
use Rattle.medium.specs.declared.fault.MediumFault.TheVariants.{Read, Write, Flush}
use Rattle.medium.specs.declared.power.Power.{Power}
use Rattle.medium.proofs.SimCalls.{chosen, keeps_power}

-- what calls change of power and counts
record Counts (p q : Power) (made more refused others : Tally) (calls later : ℕ) : Type 0 where
  fuse : (writes : ℕ) → p.fuse ≡ Some writes → (left : ℕ) × (q.fuse ≡ Some left)
      × (left + changes more + changes refused ≡ writes + changes made + changes others)
  failure : (call : ℕ) → 0 < call → p.fail ≡ Some call
      → q.fail ≡ (if nat_lt later (calls + call) then Some (calls + call - later) else None)
  unarmed : p.fail ≡ None → q.fail ≡ None
  grows : calls ≤ later

below : (a b : ℕ) (x y : Option ℕ) → a < b → (if nat_lt a b then x else y) ≡ x
below a b x y lt = rw (lt-ltb a b lt) refl

above : (a b : ℕ) (x y : Option ℕ) → b ≤ a → (if nat_lt a b then x else y) ≡ y
above a b x y le = rw (le-ltb a b le) refl

counts_itself : (p : Power) (made refused : Tally) (calls : ℕ) → Counts p p made made refused refused calls calls
counts_itself p made refused calls = record {
  fuse = λ writes e. (writes, e, refl);
  failure = λ call some e. e ∙ ap (λ (n : ℕ). Some n) (omega arith)
      ∙ sym (below calls (calls + call) (Some (calls + call - calls)) None (omega (arith, some)));
  unarmed = λ e. e;
  grows = omega arith;
}

module _ (p q r : Power) (a b c d e f : Tally) (k l m : ℕ) (one : Counts p q a b d e k l) (two : Counts q r b c e f l m) where
  failure_through : (call : ℕ) → 0 < call → p.fail ≡ Some call → (l < k + call) ⊎ (k + call ≤ l)
      → r.fail ≡ (if nat_lt m (k + call) then Some (k + call - m) else None)
  failure_through call some is (inl before) =
      let g = one.grows in
      let mid : q.fail ≡ Some (k + call - l) = one.failure call some is ∙ below l (k + call) _ _ before in
      let sum : l + (k + call - l) ≡ k + call = omega (arith, before) in
      subst (λ (n : ℕ). r.fail ≡ (if nat_lt m n then Some (n - m) else None)) sum
      (two.failure (k + call - l) (omega (arith, before)) mid)
  failure_through call some is (inr passed) =
      let g = two.grows in
      two.unarmed (one.failure call some is ∙ above l (k + call) _ _ passed)
      ∙ sym (above m (k + call) _ _ (omega (arith, passed, g)))

  counts_through : Counts p r a c d f k m
  counts_through = record {
    fuse = λ writes is.
        let h = one.fuse writes is in
        let g = two.fuse h.0 h.1 in
        let x = h.2 in
        let y = g.2 in
        (g.0, g.1, omega (arith, x, y));
    failure = λ call some is. failure_through call some is (cases_lt l (k + call));
    unarmed = λ is. two.unarmed (one.unarmed is);
    grows = let x = one.grows in let y = two.grows in omega (arith, x, y);
  }

-- a call that happens finds the fuse not used up
open_gate : (off used failing room : Bool) → (not off && not used && not failing && room) ≡ true → used ≡ false
open_gate true used failing room e = absurd (false≢true e)
open_gate false true failing room e = absurd (false≢true e)
open_gate false false failing room e = refl

some_of : (writes : ℕ) → (writes == 0) ≡ false → 0 < writes
some_of writes e = grind (arith, nat_tests)

module _ (p : Power) (kind : MediumFault) (room : Bool) (made refused : Tally) where
  abbrev next : Power
  next = power.after_call p kind room

  -- the counts of the refused calls, and what is left of the fuse, by whether the call happens
  burns : (kind : MediumFault) (happens : Bool) (writes : ℕ) → (happens && is_fused kind ≡ true → 0 < writes)
      → (left : ℕ) × ((if happens && is_fused kind then burnt (Some writes) else Some writes) ≡ Some left)
      × (left + changes (one_more made kind) + changes refused
      ≡ writes + changes made + changes (if happens then refused else one_more refused kind))
  burns Read true writes some = (writes, refl, omega arith)
  burns Read false writes some = (writes, refl, omega arith)
  burns Write true writes some = let n = some refl in (writes - 1, refl, omega (arith, n))
  burns Write false writes some = (writes, refl, omega arith)
  burns Flush true writes some = let n = some refl in (writes - 1, refl, omega (arith, n))
  burns Flush false writes some = (writes, refl, omega arith)

  some_left : (writes : ℕ) → p.fuse ≡ Some writes → admits p kind room && is_fused kind ≡ true → 0 < writes
  some_left writes is happens =
      let parts = and_parts (admits p kind room) (is_fused kind) happens in
      let used = open_gate p.off (is_fused kind && is_used_up p.fuse) (is_failing p.fail) room parts.0 in
      let left : is_used_up (Some writes) ≡ false =
      subst (λ (x : Option ℕ). is_used_up x ≡ false) is (subst (λ (b : Bool). (b && is_used_up p.fuse) ≡ false) parts.1 used) in
      some_of writes left

  counted_once : (call : ℕ) (calls : ℕ) → 0 < call
      → counted_down (Some call) ≡ (if nat_lt (calls + 1) (calls + call) then Some (calls + call - (calls + 1)) else None)
  counted_once call calls some = grind (arith, nat_tests)

  counts_once : (calls : ℕ) → Counts p next made (one_more made kind) refused
      (if admits p kind room then refused else one_more refused kind) calls (calls + 1)
  counts_once calls = record {
    fuse = λ writes is.
        subst (λ (x : Option ℕ). (left : ℕ) × ((if admits p kind room && is_fused kind then burnt x else x) ≡ Some left)
        × (left + changes (one_more made kind) + changes refused
        ≡ writes + changes made + changes (if admits p kind room then refused else one_more refused kind))) (sym is)
        (burns kind (admits p kind room) writes (some_left writes is));
    failure = λ call some is. ap counted_down is ∙ counted_once call calls some;
    unarmed = λ is. ap counted_down is;
    grows = omega arith;
  }

abbrev Between : Sim → Sim → Type 0
Between old new = Counts old.power new.power old.made new.made old.refused new.refused old.calls new.calls

made_counts : (call : SimCall) (old new : Sim) → Makes call old new → Between old new
made_counts reading old new e =
    subst (λ (m : Sim). Between old m) (sym e) (counts_once old.power Read true old.made old.refused old.calls)
made_counts (writing s bytes) old new e =
    subst (λ (m : Sim). Between old m) (sym e) (by_choice (admits old.power Write (fits old)) refl)
  where
    by_choice : (b : Bool) → admits old.power Write (fits old) ≡ b → Between old (after_write old s bytes)
    by_choice true is = subst (λ (m : Sim). Between old m) (sym (chosen old s bytes true is))
        (counts_once old.power Write (fits old) old.made old.refused old.calls)
    by_choice false is = subst (λ (m : Sim). Between old m) (sym (chosen old s bytes false is))
        (counts_once old.power Write (fits old) old.made old.refused old.calls)
made_counts flushing old new made = by_choice (admits old.power Flush true) refl made
  where
    by_choice : (b : Bool) → admits old.power Flush true ≡ b → Flushes b old new → Between old new
    by_choice true is f =
        let k = counts_once old.power Flush true old.made old.refused old.calls in
        subst (λ (p : Power). Counts old.power p old.made new.made old.refused new.refused old.calls new.calls) (sym f.power_is)
        (subst (λ (t : Tally).
        Counts old.power (power.after_call old.power Flush true) old.made t old.refused new.refused old.calls new.calls) (sym f.made_is)
        (subst (λ (t : Tally).
        Counts old.power (power.after_call old.power Flush true) old.made (one_more old.made Flush) old.refused t old.calls new.calls)
        (ap (λ (b : Bool). if b then old.refused else one_more old.refused Flush) is ∙ sym f.refused_stay)
        (subst (λ (n : ℕ). Counts old.power (power.after_call old.power Flush true) old.made (one_more old.made Flush) old.refused
        (if admits old.power Flush true then old.refused else one_more old.refused Flush) old.calls n) (sym f.calls_are) k)))
    by_choice false is e =
        subst (λ (m : Sim). Between old m) (sym e) (counts_once old.power Flush true old.made old.refused old.calls)

all_count : (calls : List SimCall) (old new : Sim) → MakeAll calls old new → Between old new
all_count [] old new e = subst (λ (m : Sim). Between old m) (sym e) (counts_itself old.power old.made old.refused old.calls)
all_count (call ∷ calls) old new h =
    counts_through old.power h.0.power new.power old.made h.0.made new.made old.refused h.0.refused new.refused old.calls h.0.calls
    new.calls (made_counts call old h.0 h.1) (all_count calls h.0 new h.2)

pub fuse_falls : FuseFalls
fuse_falls old new writes after is = (all_count after.calls old new after.made).fuse writes is

pub failure_counts_down : FailureCountsDown
failure_counts_down old new call after some is = (all_count after.calls old new after.made).failure call some is

abbrev bit : Bool → ℕ
bit refused = if refused then 1 else 0

no_more : (a b x y w v : ℕ) → (if nat_lt a b then 1 else 0) + x + w ≤ y + v → y ≡ 0 → v ≡ w → a ≤ b → b ≡ a
no_more a b x y w v few none room stays = elim (cases_lt a b) [
  | inl grew ↦
      let more = ap bit (lt-ltb a b grew) in absurd (omega (arith, few, none, room, more))
  | inr same ↦ omega (arith, same, stays)
]

none_armed : (a : Option ℕ) → is_armed a ≡ 0 → a ≡ None
none_armed None e = refl
none_armed (Some calls) e = absurd (omega (arith, e))

pub unarmed_refuses_nothing : UnarmedRefusesNothing
unarmed_refuses_nothing old new after on none =
    let k = keeps_power old new after in
    let sum = ap (λ (b : Bool). (if b then 0 else is_armed old.power.fuse) + is_armed old.power.fail) on in
    let fuse : old.power.fuse ≡ None = none_armed old.power.fuse (omega (arith, none, sum)) in
    let fail : old.power.fail ≡ None = none_armed old.power.fail (omega (arith, none, sum)) in
    let still : new.power.off ≡ false = elim (cases_Bool new.power.off) [
      | inl off ↦ absurd ((k.goes_off on off).0 fuse)
      | inr on ↦ on
    ] in
    record {
      power_stays = same_power (k.no_fuse_stays fuse ∙ sym fuse) (k.no_failure_stays fail ∙ sym fail) (still ∙ sym on);
      none_refused = λ room. no_more (of_all old.refused) (of_all new.refused) (faults_in new.power) (faults_in old.power)
          old.without_room new.without_room (k.uses_up on) none room k.refused_stay;
    }
  where
    same_power : new.power.fuse ≡ old.power.fuse → new.power.fail ≡ old.power.fail → new.power.off ≡ old.power.off
        → new.power ≡ old.power
    same_power fuse fail off = λ i. record { fuse = fuse i; fail = fail i; off = off i }
