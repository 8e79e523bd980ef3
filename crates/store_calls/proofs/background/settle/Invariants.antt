use Rattle.blocks.specs.{declared.work.Work.TheVariants.Settle}
use Rattle.store_calls.specs.Idling.{AreSteps, Before, MaySettle}
use Rattle.store_calls.proofs.background.settle.Given as goal

-- `_made` steps were made
abbrev pub invariant-loop-made : goal.invariant-loop-made
invariant-loop-made l = AreSteps (Before MaySettle) Settle l._made l.fn.store l.store
