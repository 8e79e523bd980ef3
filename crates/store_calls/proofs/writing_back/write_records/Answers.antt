use Rattle.std.proofs.Common.{inl, inr, rules, ◌≤◌, ◌≡◌}
use Rattle.blocks.specs.{declared.work.Work.TheVariants.WriteBack}
use Rattle.store_calls.specs.{Idling.Before, WritingBack.MayWriteBack}
use Rattle.store_calls.proofs.{Stepping.{none_made, one_more}, WrittenBack.writes_back}
use Rattle.store_calls.proofs.writing_back.write_records.Goals as goal

pub loop-made-init : goal.loop-made-init
loop-made-init c = none_made (Before (MayWriteBack c.args.aim)) WriteBack c.args.store.now

pub loop-made-preserved : goal.loop-made-preserved
loop-made-preserved c =
    let may : MayWriteBack c.args.aim c.loop-made.store = c.may_write_back.ensures.0 c.if-not-may_write_back.false in
    one_more (Before (MayWriteBack c.args.aim)) WriteBack c.loop-made._made c.args.store.now c.loop-made.store c.step.new.store
    c.loop-made.invariant may.short c.step.ensures may

pub returns-then-not-may_write_back : goal.returns-then-not-may_write_back
returns-then-not-may_write_back c =
    let few : c.loop-made._made ≤ 256 = search rules in
    let none : ¬ MayWriteBack c.args.aim c.loop-made.store = search rules in
    writes_back c.args.aim c.loop-made._made c.args.store.now c.loop-made.store c.foresee.ensures few c.loop-made.invariant (inr none)

pub returns : goal.returns
returns c =
    let few : c.loop-made._made ≤ 256 = search rules in
    let all : c.loop-made._made ≡ 256 = search rules in
    writes_back c.args.aim c.loop-made._made c.args.store.now c.loop-made.store c.foresee.ensures few c.loop-made.invariant (inl all)
