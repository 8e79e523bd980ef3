use Rattle.std.proofs.Common.{inl, inr, rules, ◌≤◌, ◌≡◌, ◌⊎◌, ℕ}
use Rattle.blocks.specs.{declared.work.Work.TheVariants.Settle}
use Rattle.store_calls.specs.{Idling.{AreSteps, Before, IsAllDone, IsShort, MakesSteps, MaySettle}, Rooms.Foresees, Stores.Store}
use Rattle.store_calls.proofs.Stepping.{none_made, one_more, steps_append}
use Rattle.store_calls.proofs.{background.settle.Goals.then-is_settled-via-then-is_settled}
use Rattle.store_calls.proofs.{background.settle.Goals.then-is_settled-via-else-is_settled+then-not-is_short}
use Rattle.store_calls.proofs.background.settle.Goals as goal

makes : (count : ℕ) (old new : Store) → Foresees old.medium → count ≤ 32 → AreSteps (Before MaySettle) Settle count old new
    → (count ≡ 32) ⊎ (IsAllDone new ⊎ (¬ IsShort new)) → MakesSteps old new
makes count old new sees few made ends = record {
  count = count;
  few = few;
  made = made;
  ends = ends;
  appends = steps_append (Before MaySettle) Settle count old new sees made;
}

pub loop-made-init : goal.loop-made-init
loop-made-init c = none_made (Before MaySettle) Settle c.args.store.now

pub loop-made-preserved : goal.loop-made-preserved
loop-made-preserved c =
    let short : IsShort c.loop-made.store = search rules in
    let left : ¬ IsAllDone c.loop-made.store = search rules in
    one_more (Before MaySettle) Settle c.loop-made._made c.args.store.now c.loop-made.store c.step.new.store c.loop-made.invariant
    short c.step.ensures (record { left = left; short = short })

pub returns-then-is_settled : goal.returns-then-is_settled
returns-then-is_settled c =
    makes c.loop-made._made c.args.store.now c.loop-made.store c.foresee.ensures (search rules) c.loop-made.invariant
    (elim c.then-is_settled.branch [
      | then-is_settled-via-then-is_settled w ↦ inr (inl (search rules))
      | then-is_settled-via-else-is_settled+then-not-is_short w ↦ inr (inr (search rules))
    ])

pub returns : goal.returns
returns c =
    makes c.loop-made._made c.args.store.now c.loop-made.store c.foresee.ensures (search rules) c.loop-made.invariant (inl (search rules))
