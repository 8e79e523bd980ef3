-- Steps that write what is before a write or a sync.
use Rattle.std.proofs.Common.{◌≡◌, ◌⊎◌, ◌<◌, ◌≤◌, ◌+◌, ◌∙◌, ℕ, zero, suc, false, [], inl, inr, refl, sym, ap, subst, arith}
use Rattle.std.proofs.{lemmas.Bool.false≢true}
use Rattle.std.specs.{Prelude.◌∷◌}
use Rattle.window.specs.{Window.state_of}
use Rattle.blocks.specs.{Headroom.IsSparing, StoreValue.{is_dead, steps_left}, Written.IsWritten, declared.work.Work.TheVariants.WriteBack}
use Rattle.blocks.proofs.{EmptyBatches.none_of, FlushesOnce.sparing_all}
use Rattle.store_calls.specs.{Calls.IsStep, Idling.{AreSteps, Before, StepsOn}, Rooms.Foresees, Stores.Store}
use Rattle.store_calls.specs.{WritingBack.{IsLeft, MayWriteBack, WritesBack}, declared.writing_back.Aim.Aim}
use Rattle.store_calls.proofs.Stepping.{lived, steps_append}
use Rattle.store_calls.specs.declared.writing_back.Aim.TheVariants as aim

-- where something is left, a record is left to write
unwritten : (a : Aim) (s : Store) → IsLeft a s → ¬ IsWritten s.cached
unwritten aim.Batch s left (inl dead) = absurd (false≢true (sym left.0 ∙ dead))
unwritten aim.Batch s left (inr none) = absurd (left.1 (none_of s.cached.frozen.numbers (omega (arith, none))))
unwritten aim.Records s left written = left written

-- as many steps fewer are left as were made
steps_fewer : (a : Aim) (count : ℕ) (old new : Store) → StepsOn (Before (MayWriteBack a)) WriteBack count old new
    → is_dead new.cached ≡ false → steps_left new.cached + count ≤ steps_left old.cached
steps_fewer a zero old new same live = omega (arith, ap (λ (s : Store). steps_left s.cached) same)
steps_fewer a (suc count) old new (mid, steps, may, step) live =
    let before = lived (is_dead mid.cached) (is_dead new.cached) step.passes.turn.goes_on.dead_stays live in
    let rest = steps_fewer a count old mid steps before in
    elim (step.counts.left live) [
      | inl done ↦ absurd (unwritten a mid may.left done)
      | inr fewer ↦ omega (arith, rest, fewer)
    ]

-- one of them
sparing : (old new : Store) → IsStep WriteBack old new → IsSparing state_of old new
sparing old new step = record {
  policy = step.passes.policy;
  dead_stays = step.passes.turn.goes_on.dead_stays;
  headroom = step.headroom;
  once = step.once tt;
}

-- and all
steps_sparing : (May : Store → Store → Type 0) (count : ℕ) (old new : Store) → StepsOn May WriteBack count old new
    → IsSparing state_of old new
steps_sparing May zero old new same = subst (λ (s : Store). IsSparing state_of old s) (sym same) (record {
  policy = refl;
  dead_stays = λ dead. dead;
  headroom = λ ahead has live. has;
  once = λ ahead has live. refl;
})
steps_sparing May (suc count) old new (mid, steps, may, step) =
    sparing_all state_of old new (mid ∷ []) (steps_sparing May count old mid steps, sparing mid new step)

pub writes_back : (a : Aim) (count : ℕ) (old new : Store) → Foresees old.medium → count ≤ 256
    → AreSteps (Before (MayWriteBack a)) WriteBack count old new → (count ≡ 256) ⊎ (¬ MayWriteBack a new) → WritesBack a old new
writes_back a count old new sees few made ends = record {
  count = count;
  few = few;
  made = made;
  ends = ends;
  fewer = steps_fewer a count old new made.steps;
  sparing = steps_sparing (Before (MayWriteBack a)) count old new made.steps;
  appends = steps_append (Before (MayWriteBack a)) WriteBack count old new sees made;
}

-- one step at least is made where one may be
pub some_made : (a : Aim) (old new : Store) (writes : WritesBack a old new) → MayWriteBack a old → 0 < writes.count
some_made a old new writes may = at writes.count writes.made.steps writes.ends
  where
    at : (count : ℕ) → StepsOn (Before (MayWriteBack a)) WriteBack count old new → (count ≡ 256) ⊎ (¬ MayWriteBack a new) → 0 < count
    at (suc count) steps ends = omega arith
    at zero same (inl all) = omega (arith, all)
    at zero same (inr none) = absurd (none (rw same may))
