use Rattle.std.proofs.Common.{◌≡◌, ◌⊎◌, ◌<◌, None, length}
use Rattle.journal.specs.{Places.Shape}
use Rattle.window.specs.Window.{Window, ComesAfter}
use Rattle.image_calls.specs.{Formats.IsMaking, Parts.parts_left, declared.plan.Aim.Aim}
use Rattle.image_calls.proofs.going.go_on.Given as goal

abbrev pub invariant-loop-plan : goal.invariant-loop-plan
invariant-loop-plan l = record {
  follows : ComesAfter l.fn.work.medium l.work.medium;
  keeps : (what : Aim) (shape : Shape) (first : Window) → IsMaking what shape first l.fn.work → IsMaking what shape first l.work;
  stays : (0 < length l.fn.work.medium.outbox) ⊎ (l.fn.work.left ≡ None) → l.work ≡ l.fn.work;
}

abbrev pub decreases-loop-plan : goal.decreases-loop-plan
decreases-loop-plan l = parts_left l.work.left
