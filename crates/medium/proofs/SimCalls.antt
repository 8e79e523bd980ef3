-- What calls alone do to the power of a medium in memory, and why they are refused.
use Rattle.std.proofs.Common.{◌≡◌, ◌≢◌, ◌⊎◌, inl, inr, ℕ, ◌+◌, ◌<◌, ◌≤◌, Bool, true, false, not, ◌&&◌, ◌||◌, ◌==◌, List}
use Rattle.std.proofs.Common.{[], ◌∷◌, ◌++◌}
use Rattle.std.proofs.Common.{None, Some, Option, if◌then◌else◌, nat_lt, ltb-true, refl, sym, subst, ◌∙◌, ap, arith}
use Rattle.std.proofs.lemmas.Bool.{cases_Bool, cases_lt, and_parts, false≢true}
use Rattle.std.proofs.lemmas.Bool.Decides.{nat_tests}
use Rattle.medium.specs.Power as power
use Rattle.medium.specs.Power.{is_fused, is_used_up, burnt, is_failing, counted_down, admits, is_armed, faults_in}
use Rattle.medium.specs.Tally.{Tally, of_all, one_more}
use Rattle.medium.specs.Sim.{Sim, SimCall, reading, writing, flushing, fits, after_call, after_write, IsFlush, Flushes, Makes, MakeAll}
use Rattle.medium.specs.Sim.{ComesAfter}
use Rattle.medium.specs.declared.fault.MediumFault.{MediumFault}
use Rattle.medium.specs.declared.fault.MediumFault.TheVariants.{Read, Write, Flush}
use Rattle.medium.specs.declared.power.Power.{Power}

-- Why a call was refused while the power was on: the fuse, which turned it off, the failure, which
-- is armed no more, or no room for a write.
abbrev IsCause : Power → Power → ℕ → ℕ → Type 0
IsCause p q lacks more =
    ((p.fuse ≢ None) × (q.off ≡ true)) ⊎ (((p.fail ≢ None) × (q.fail ≡ None)) ⊎ (lacks < more))

-- from one power to another, with the refused calls and the writes without room
record Keeps (p q : Power) (refused others lacks more : ℕ) : Type 0 where
  no_fuse : p.fuse ≡ None → q.fuse ≡ None
  no_failure : p.fail ≡ None → q.fail ≡ None
  off_stays : p.off ≡ true → q.off ≡ true
  goes_off : p.off ≡ false → q.off ≡ true → (p.fuse ≢ None) × (refused < others)
  refused_stay : refused ≤ others
  lacks_stay : lacks ≤ more
  cause : p.off ≡ false → refused < others → IsCause p q lacks more

keeps_itself : (p : Power) (refused lacks : ℕ) → Keeps p p refused refused lacks lacks
keeps_itself p refused lacks = record {
  no_fuse = λ e. e;
  no_failure = λ e. e;
  off_stays = λ e. e;
  goes_off = λ on off. absurd (cc (on, off));
  refused_stay = omega arith;
  lacks_stay = omega arith;
  cause = λ on grew. absurd (omega (arith, grew));
}

module _ (p q r : Power) (a b c u v w : ℕ) (f : Keeps p q a b u v) (g : Keeps q r b c v w) where
  goes_off_through : p.off ≡ false → r.off ≡ true → (p.fuse ≢ None) × (a < c)
  goes_off_through on off = elim (cases_Bool q.off) [
    | inl was ↦ let h = f.goes_off on was in let k = g.refused_stay in (h.0, omega (arith, h.1, k))
    | inr still ↦ let h = g.goes_off still off in let k = f.refused_stay in
        ((λ none. h.0 (f.no_fuse none)), omega (arith, h.1, k))
  ]

  first_cause : IsCause p q u v → IsCause p r u w
  first_cause (inl fused) = inl (fused.0, g.off_stays fused.1)
  first_cause (inr (inl failed)) = inr (inl (failed.0, g.no_failure failed.1))
  first_cause (inr (inr full)) = let k = g.lacks_stay in inr (inr (omega (arith, full, k)))

  next_cause : IsCause q r v w → IsCause p r u w
  next_cause (inl fused) = inl ((λ none. fused.0 (f.no_fuse none)), fused.1)
  next_cause (inr (inl failed)) = inr (inl ((λ none. failed.0 (f.no_failure none)), failed.1))
  next_cause (inr (inr full)) = let k = f.lacks_stay in inr (inr (omega (arith, full, k)))

  later_cause : p.off ≡ false → a < c → (a < b) ⊎ (b ≤ a) → IsCause p r u w
  later_cause on grew (inl first) = first_cause (f.cause on first)
  later_cause on grew (inr none) = elim (cases_Bool q.off) [
    | inl off ↦ let h = f.goes_off on off in absurd (omega (arith, h.1, none))
    | inr still ↦ next_cause (g.cause still (omega (arith, grew, none)))
  ]

  keeps_through : Keeps p r a c u w
  keeps_through = record {
    no_fuse = λ e. g.no_fuse (f.no_fuse e);
    no_failure = λ e. g.no_failure (f.no_failure e);
    off_stays = λ e. g.off_stays (f.off_stays e);
    goes_off = goes_off_through;
    refused_stay = let h = f.refused_stay in let k = g.refused_stay in omega (arith, h, k);
    lacks_stay = let h = f.lacks_stay in let k = g.lacks_stay in omega (arith, h, k);
    cause = λ on grew. later_cause on grew (cases_lt a b);
  }

-- ---- one call

-- a read
pub read_once : (old new : Sim) → new ≡ after_call old Read true → ComesAfter old new
read_once old new e = record { calls = reading ∷ []; made = (new, e, refl) }

-- a write, by whether it happens
pub chosen : (old : Sim) (s : ℕ) (bytes : List ℕ) (happens : Bool) → admits old.power Write (fits old) ≡ happens
    → after_write old s bytes
    ≡ (if happens
    then record (after_call old Write (fits old)) { unflushed = old.unflushed ++ record { sector = s; block = bytes } ∷ [] }
    else after_call old Write (fits old))
chosen old s bytes happens is = ap (λ (b : Bool). if b
    then record (after_call old Write (fits old)) { unflushed = old.unflushed ++ record { sector = s; block = bytes } ∷ [] }
    else after_call old Write (fits old)) is

-- a write that was refused
pub refused_once : (old new : Sim) (s : ℕ) (bytes : List ℕ) → admits old.power Write (fits old) ≡ false
    → new ≡ after_call old Write (fits old) → ComesAfter old new
refused_once old new s bytes not e = record {
  calls = writing s bytes ∷ [];
  made = (new, e ∙ sym (chosen old s bytes false not), refl);
}

-- a write that happened
pub written_once : (old new : Sim) (s : ℕ) (bytes : List ℕ) → admits old.power Write (fits old) ≡ true
    → new ≡ record (after_call old Write (fits old)) { unflushed = old.unflushed ++ record { sector = s; block = bytes } ∷ [] }
    → ComesAfter old new
written_once old new s bytes happens e = record {
  calls = writing s bytes ∷ [];
  made = (new, e ∙ sym (chosen old s bytes true happens), refl);
}

-- a flush that was refused, and one that happened
pub unflushed_once : (old new : Sim) → admits old.power Flush true ≡ false → new ≡ after_call old Flush true → ComesAfter old new
unflushed_once old new not e = record {
  calls = flushing ∷ [];
  made = (new, subst (λ (b : Bool). Flushes b old new) (sym not) e, refl);
}

pub flushed_once : (old new : Sim) → admits old.power Flush true ≡ true → IsFlush old new → ComesAfter old new
flushed_once old new happens is = record {
  calls = flushing ∷ [];
  made = (new, subst (λ (b : Bool). Flushes b old new) (sym happens) is, refl);
}

-- ---- what one call makes of the power

failing_once : (fail : Option ℕ) → is_failing fail ≡ true → (fail ≢ None) × (counted_down fail ≡ None)
failing_once None e = absurd (false≢true e)
failing_once (Some calls) e = ((λ none. cc none), failed calls e)
  where
    failed : (calls : ℕ) → (calls == 1) ≡ true → counted_down (Some calls) ≡ None
    failed calls e = grind (arith, nat_tests)

fused_once : (fuse : Option ℕ) → is_used_up fuse ≡ true → fuse ≢ None
fused_once None e = absurd (false≢true e)
fused_once (Some writes) e = λ none. cc none

module _ (p : Power) (kind : MediumFault) (room : Bool) where
  abbrev next : Power
  next = power.after_call p kind room

  abbrev used_up : Bool
  used_up = is_fused kind && is_used_up p.fuse

  still_none : p.fuse ≡ None → next.fuse ≡ None
  still_none e = by_choice (admits p kind room && is_fused kind)
    where
      by_choice : (b : Bool) → (if b then burnt p.fuse else p.fuse) ≡ None
      by_choice true = ap burnt e
      by_choice false = e

  unarmed : p.fail ≡ None → next.fail ≡ None
  unarmed e = ap counted_down e

  stays_off : p.off ≡ true → next.off ≡ true
  stays_off e = ap (λ (b : Bool). b || used_up) e

  is_used : p.off ≡ false → next.off ≡ true → used_up ≡ true
  is_used on off = sym (ap (λ (b : Bool). b || used_up) on) ∙ off

  refuses : p.off ≡ false → used_up ≡ true → admits p kind room ≡ false
  refuses on used =
      ap (λ (b : Bool). not b && not used_up && not (is_failing p.fail) && room) on
      ∙ ap (λ (b : Bool). not b && not (is_failing p.fail) && room) used

  turns_off : p.off ≡ false → next.off ≡ true → (p.fuse ≢ None) × (admits p kind room ≡ false)
  turns_off on off =
      let used = is_used on off in
      (fused_once p.fuse (and_parts (is_fused kind) (is_used_up p.fuse) used).1, refuses on used)

  happens : p.off ≡ false → used_up ≡ false → is_failing p.fail ≡ false → room ≡ true → admits p kind room ≡ true
  happens on fused failing fits =
      ap (λ (b : Bool). not b && not used_up && not (is_failing p.fail) && room) on
      ∙ ap (λ (b : Bool). not b && not (is_failing p.fail) && room) fused
      ∙ ap (λ (b : Bool). not b && room) failing ∙ fits

  why : (lacks : ℕ) → p.off ≡ false → admits p kind room ≡ false → IsCause p next lacks (if room then lacks else lacks + 1)
  why lacks on refused = elim (cases_Bool used_up) [
    | inl used ↦ inl (
      fused_once p.fuse (and_parts (is_fused kind) (is_used_up p.fuse) used).1,
      ap (λ (b : Bool). b || used_up) on ∙ used,
    )
    | inr unused ↦ elim (cases_Bool (is_failing p.fail)) [
      | inl fails ↦ inr (inl (failing_once p.fail fails))
      | inr works ↦ elim (cases_Bool room) [
        | inl fits ↦ absurd (false≢true (sym refused ∙ happens on unused works fits))
        | inr full ↦ inr (inr (subst (λ (b : Bool). lacks < (if b then lacks else lacks + 1)) (sym full) (omega arith)))
      ]
    ]
  ]

  refused_grew : (refused others : ℕ) → others ≡ (if admits p kind room then refused else refused + 1) → refused < others
      → admits p kind room ≡ false
  refused_grew refused others is grew = by_choice (admits p kind room) is
    where
      by_choice : (b : Bool) → others ≡ (if b then refused else refused + 1) → b ≡ false
      by_choice true e = absurd (omega (arith, e, grew))
      by_choice false e = refl

  refused_stays : (refused others : ℕ) (b : Bool) → others ≡ (if b then refused else refused + 1) → refused ≤ others
  refused_stays refused others true e = omega (arith, e)
  refused_stays refused others false e = omega (arith, e)

  refused_more : (refused others : ℕ) (b : Bool) → b ≡ false → others ≡ (if b then refused else refused + 1) → refused < others
  refused_more refused others true is e = absurd (false≢true (sym is))
  refused_more refused others false is e = omega (arith, e)

  lacks_stays : (lacks : ℕ) (b : Bool) → lacks ≤ (if b then lacks else lacks + 1)
  lacks_stays lacks true = omega arith
  lacks_stays lacks false = omega arith

  keeps_once : (refused others lacks : ℕ) → others ≡ (if admits p kind room then refused else refused + 1)
      → Keeps p next refused others lacks (if room then lacks else lacks + 1)
  keeps_once refused others lacks is = record {
    no_fuse = still_none;
    no_failure = unarmed;
    off_stays = stays_off;
    goes_off = λ on off. let h = turns_off on off in (h.0, refused_more refused others (admits p kind room) h.1 is);
    refused_stay = refused_stays refused others (admits p kind room) is;
    lacks_stay = lacks_stays lacks room;
    cause = λ on grew. why lacks on (refused_grew refused others is grew);
  }

-- ---- what calls make of a medium

one_refused : (r : Tally) (kind : MediumFault) → of_all (one_more r kind) ≡ of_all r + 1
one_refused r Read = omega arith
one_refused r Write = omega arith
one_refused r Flush = omega arith

refused_by : (r : Tally) (kind : MediumFault) (b : Bool)
    → of_all (if b then r else one_more r kind) ≡ (if b then of_all r else of_all r + 1)
refused_by r kind true = refl
refused_by r kind false = one_refused r kind

-- from one medium to another
pub record KeepsPower (old new : Sim) : Type 0 where
  pub no_fuse_stays : old.power.fuse ≡ None → new.power.fuse ≡ None
  pub no_failure_stays : old.power.fail ≡ None → new.power.fail ≡ None
  pub off_stays : old.power.off ≡ true → new.power.off ≡ true
  -- the power goes off in a call that the fuse refused
  pub goes_off : old.power.off ≡ false → new.power.off ≡ true
      → (old.power.fuse ≢ None) × (of_all old.refused < of_all new.refused)
  pub refused_stay : of_all old.refused ≤ of_all new.refused
  -- a refused call used up a fault that was armed, or there was no room for a write
  pub uses_up : old.power.off ≡ false → (if nat_lt (of_all old.refused) (of_all new.refused) then 1 else 0)
      + faults_in new.power + old.without_room ≤ faults_in old.power + new.without_room

armed_falls : (a b : Option ℕ) → (a ≡ None → b ≡ None) → is_armed b ≤ is_armed a
armed_falls None b stays = subst (λ (x : Option ℕ). is_armed x ≤ 0) (sym (stays refl)) (omega arith)
armed_falls (Some calls) None stays = omega arith
armed_falls (Some calls) (Some left) stays = omega arith

armed_some : (a : Option ℕ) → a ≢ None → is_armed a ≡ 1
armed_some None some = absurd (some refl)
armed_some (Some calls) some = refl

module _ (p q : Power) (refused others lacks more : ℕ) (on : p.off ≡ false) (k : Keeps p q refused others lacks more) where
  abbrev armed_on : Bool → Option ℕ → ℕ
  armed_on off fuse = if off then 0 else is_armed fuse

  was : faults_in p ≡ is_armed p.fuse + is_armed p.fail
  was = ap (λ (b : Bool). armed_on b p.fuse + is_armed p.fail) on

  fuse_falls : (off : Bool) → armed_on off q.fuse ≤ is_armed p.fuse
  fuse_falls true = omega arith
  fuse_falls false = armed_falls p.fuse q.fuse k.no_fuse

  by_cause : IsCause p q lacks more → 1 + faults_in q + lacks ≤ faults_in p + more
  by_cause (inl fused) =
      let off = ap (λ (b : Bool). armed_on b q.fuse + is_armed q.fail) fused.1 in
      let h = k.lacks_stay in
      omega (arith, was, off, armed_some p.fuse fused.0, armed_falls p.fail q.fail k.no_failure, h)
  by_cause (inr (inl failed)) =
      let h = k.lacks_stay in
      omega (arith, was, armed_some p.fail failed.0, ap is_armed failed.1, fuse_falls q.off, h)
  by_cause (inr (inr full)) = omega (arith, was, fuse_falls q.off, armed_falls p.fail q.fail k.no_failure, full)

  uses_up : (if nat_lt refused others then 1 else 0) + faults_in q + lacks ≤ faults_in p + more
  uses_up = elim (cases_Bool (nat_lt refused others)) [
    | inl grew ↦ rw grew (by_cause (k.cause on (ltb-true refused others grew)))
    | inr none ↦ let h = k.lacks_stay in
        rw none (omega (arith, was, fuse_falls q.off, armed_falls p.fail q.fail k.no_failure, h))
  ]

abbrev Between : Sim → Sim → Type 0
Between old new = Keeps old.power new.power (of_all old.refused) (of_all new.refused) old.without_room new.without_room

call_keeps : (old : Sim) (kind : MediumFault) (room : Bool) → Between old (after_call old kind room)
call_keeps old kind room =
    keeps_once old.power kind room (of_all old.refused) (of_all (after_call old kind room).refused) old.without_room
    (refused_by old.refused kind (admits old.power kind room))

made_keeps : (call : SimCall) (old new : Sim) → Makes call old new → Between old new
made_keeps reading old new e = subst (λ (m : Sim). Between old m) (sym e) (call_keeps old Read true)
made_keeps (writing s bytes) old new e =
    subst (λ (m : Sim). Between old m) (sym e) (by_choice (admits old.power Write (fits old)) refl)
  where
    by_choice : (b : Bool) → admits old.power Write (fits old) ≡ b → Between old (after_write old s bytes)
    by_choice true is = subst (λ (m : Sim). Between old m) (sym (chosen old s bytes true is)) (call_keeps old Write (fits old))
    by_choice false is = subst (λ (m : Sim). Between old m) (sym (chosen old s bytes false is)) (call_keeps old Write (fits old))
made_keeps flushing old new made = by_choice (admits old.power Flush true) refl made
  where
    by_choice : (b : Bool) → admits old.power Flush true ≡ b → Flushes b old new → Between old new
    by_choice true is f =
        let k = keeps_once old.power Flush true (of_all old.refused) (of_all old.refused) old.without_room
        (ap (λ (b : Bool). if b then of_all old.refused else of_all old.refused + 1) (sym is)) in
        subst (λ (p : Power). Keeps old.power p (of_all old.refused) (of_all new.refused) old.without_room new.without_room)
        (sym f.power_is)
        (subst (λ (n : ℕ). Keeps old.power (power.after_call old.power Flush true) (of_all old.refused) n old.without_room new.without_room)
        (sym (ap of_all f.refused_stay))
        (subst (λ (n : ℕ).
        Keeps old.power (power.after_call old.power Flush true) (of_all old.refused) (of_all old.refused) old.without_room n)
        (sym f.without_room_stays) k))
    by_choice false is e = subst (λ (m : Sim). Between old m) (sym e) (call_keeps old Flush true)

all_keep : (calls : List SimCall) (old new : Sim) → MakeAll calls old new → Between old new
all_keep [] old new e =
    subst (λ (m : Sim). Between old m) (sym e) (keeps_itself old.power (of_all old.refused) old.without_room)
all_keep (call ∷ calls) old new h =
    keeps_through old.power h.0.power new.power (of_all old.refused) (of_all h.0.refused) (of_all new.refused) old.without_room
    h.0.without_room new.without_room (made_keeps call old h.0 h.1) (all_keep calls h.0 new h.2)

pub keeps_power : (old new : Sim) → ComesAfter old new → KeepsPower old new
keeps_power old new after =
    let k = all_keep after.calls old new after.made in
    record {
      no_fuse_stays = k.no_fuse;
      no_failure_stays = k.no_failure;
      off_stays = k.off_stays;
      goes_off = k.goes_off;
      refused_stay = k.refused_stay;
      uses_up = λ on. uses_up old.power new.power (of_all old.refused) (of_all new.refused) old.without_room new.without_room on k;
    }
