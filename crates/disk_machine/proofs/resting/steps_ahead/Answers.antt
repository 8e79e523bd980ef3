use Rattle.std.proofs.Common.{◌≤◌, ◌∙◌, add-one, length, inl, inr, sym, ap, arith, refl}
use Rattle.window.specs.Window.{Window}
use Rattle.disk_machine.specs.{Idling.AsksAhead, Plays.medium_of}
use Rattle.disk_machine.proofs.resting.steps_ahead.Goals as goal

pub loop-made-preserved : goal.loop-made-preserved
loop-made-preserved c =
    let before = c.waiting-before.ensures.is ∙ ap (λ (w : Window). length w.outbox) c.medium.ensures.is in
    let after = c.waiting.ensures.is ∙ ap (λ (w : Window). length w.outbox) c.medium-in-loop-made.ensures.is in
    let may : AsksAhead c.args.most c.loop-made.disk c.make_step.new.disk = record {
      short = omega (arith, c.if-before-most.false, before);
      asks = λ same. c.if-waiting-before.false (after ∙ same ∙ sym before);
    } in
    rw add-one (c.loop-made.disk, c.loop-made.invariant, may, c.make_step.ensures)

pub returns-then-before-most : goal.returns-then-before-most
returns-then-before-most c =
    let before = c.waiting-before.ensures.is ∙ ap (λ (w : Window). length w.outbox) c.medium.ensures.is in record {
      count = c.loop-made._made;
      few = omega (arith, c.loop-made-test.true);
      mid = c.loop-made.disk;
      steps = c.loop-made.invariant;
      ends = inl (inr (λ short. absurd (omega (arith, c.if-before-most.true, before, short))), refl);
    }

pub returns-then-waiting-before : goal.returns-then-waiting-before
returns-then-waiting-before c =
    let before = c.waiting-before.ensures.is ∙ ap (λ (w : Window). length w.outbox) c.medium.ensures.is in
    let after = c.waiting.ensures.is ∙ ap (λ (w : Window). length w.outbox) c.medium-in-loop-made.ensures.is in
    let short : length (medium_of c.loop-made.disk).outbox ≤ c.args.most = omega (arith, c.if-before-most.false, before) in record {
      count = c.loop-made._made;
      few = omega (arith, c.loop-made-test.true);
      mid = c.loop-made.disk;
      steps = c.loop-made.invariant;
      ends = inr (
        omega (arith, c.loop-made-test.true),
        (short, c.make_step.ensures, sym after ∙ c.if-waiting-before.true ∙ before),
      );
    }
