use Rattle.std.proofs.Common.{◌≡◌, ◌<◌, ◌≤◌, ◌⊎◌, ◌∙◌, length, inl, inr, rules, refl, sym, ap, arith, ℕ}
use Rattle.window.specs.{Window.Window}
use Rattle.blocks.specs.{declared.work.Work.TheVariants.Ahead}
use Rattle.store_calls.specs.{Calls.IsStep, Idling.{AreSteps, AsksAhead, GoesAhead, IsShort}, Rooms.Foresees, Stores.Store}
use Rattle.store_calls.proofs.Stepping.{appended, none_made, one_more, passes_on, refuses_on, steps_append}
use Rattle.store_calls.proofs.background.go_ahead.Goals as goal

-- no more may be made
ends : (count : ℕ) (old new : Store) → Foresees old.medium → count ≤ 64 → AreSteps AsksAhead Ahead count old new
    → (count ≡ 64) ⊎ (¬ IsShort new) → GoesAhead old new
ends count old new sees few made why = record {
  count = count;
  few = few;
  mid = new;
  made = made;
  ends = inl (why, refl);
  appends = steps_append AsksAhead Ahead count old new sees made;
  turn = made.passes.turn;
}

-- one more was, and asked for nothing
asks_none : (count : ℕ) (old mid new : Store) → Foresees old.medium → count < 64 → AreSteps AsksAhead Ahead count old mid
    → IsShort mid → IsStep Ahead mid new → length new.medium.outbox ≡ length mid.medium.outbox → GoesAhead old new
asks_none count old mid new sees few made short step none =
    let passes = passes_on AsksAhead Ahead count old mid new made short step in record {
      count = count;
      few = omega (arith, few);
      mid = mid;
      made = made;
      ends = inr (few, short, step, none);
      appends = appended old new sees passes.follows (refuses_on AsksAhead Ahead count old mid new made short step);
      turn = passes.turn;
    }

pub loop-made-init : goal.loop-made-init
loop-made-init c = none_made AsksAhead Ahead c.args.store.now

pub loop-made-preserved : goal.loop-made-preserved
loop-made-preserved c =
    let before = c.waiting-before.ensures.is ∙ ap (λ (w : Window). length w.outbox) c.medium.ensures.is in
    let after = c.waiting.ensures.is ∙ ap (λ (w : Window). length w.outbox) c.medium-in-loop-made.ensures.is in
    let short : IsShort c.loop-made.store = search rules in
    one_more AsksAhead Ahead c.loop-made._made c.args.store.now c.loop-made.store c.step.new.store c.loop-made.invariant
    short c.step.ensures (record { short = short; asks = λ same. c.if-waiting-before.false (after ∙ same ∙ sym before) })

pub returns-then-not-is_short : goal.returns-then-not-is_short
returns-then-not-is_short c =
    ends c.loop-made._made c.args.store.now c.loop-made.store c.foresee.ensures (search rules) c.loop-made.invariant (inr (search rules))

pub returns-then-waiting-before : goal.returns-then-waiting-before
returns-then-waiting-before c =
    let before = c.waiting-before.ensures.is ∙ ap (λ (w : Window). length w.outbox) c.medium.ensures.is in
    let after = c.waiting.ensures.is ∙ ap (λ (w : Window). length w.outbox) c.medium-in-loop-made.ensures.is in
    let short : IsShort c.loop-made.store = search rules in
    asks_none c.loop-made._made c.args.store.now c.loop-made.store c.step.new.store c.foresee.ensures (omega (arith, c.loop-made-test.true))
    c.loop-made.invariant short c.step.ensures (sym after ∙ c.if-waiting-before.true ∙ before)

pub returns : goal.returns
returns c =
    ends c.loop-made._made c.args.store.now c.loop-made.store c.foresee.ensures (search rules) c.loop-made.invariant (inl (search rules))
