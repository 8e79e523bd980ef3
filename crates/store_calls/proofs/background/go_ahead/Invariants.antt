use Rattle.blocks.specs.{declared.work.Work.TheVariants.Ahead}
use Rattle.store_calls.specs.Idling.{AreSteps, AsksAhead}
use Rattle.store_calls.proofs.background.go_ahead.Given as goal

-- `_made` steps were made
abbrev pub invariant-loop-made : goal.invariant-loop-made
invariant-loop-made l = AreSteps AsksAhead Ahead l._made l.fn.store l.store
