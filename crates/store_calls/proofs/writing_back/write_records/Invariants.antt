use Rattle.blocks.specs.{declared.work.Work.TheVariants.WriteBack}
use Rattle.store_calls.specs.{Idling.{AreSteps, Before}, WritingBack.MayWriteBack}
use Rattle.store_calls.proofs.writing_back.write_records.Given as goal

-- `_made` steps were made
abbrev pub invariant-loop-made : goal.invariant-loop-made
invariant-loop-made l = AreSteps (Before (MayWriteBack l.aim)) WriteBack l._made l.fn.store l.store
