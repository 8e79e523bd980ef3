use Rattle.std.proofs.Common.{◌≡◌, false, inr, refl, rules}
use Rattle.blocks.specs.StoreValue.{is_dead, unwritten}
use Rattle.store_calls.specs.{StoreMachine.IsCaughtUp, WritingBack.IsLeft, declared.writing_back.Aim.TheVariants.Records}
use Rattle.store_calls.proofs.Doing.{promises, puts_off}
use Rattle.store_calls.proofs.machine.StoreMachine.sync.Goals as goal

pub returns-then-not-is_written : goal.returns-then-not-is_written
returns-then-not-is_written c =
    let live : is_dead c.args.self.now.store.cached ≡ false = search rules in
    let free : IsCaughtUp c.args.self.now = search rules in
    let left : IsLeft Records c.args.self.now.store = search rules in
    inr (live, refl, inr (puts_off Records c.args.self.now _ free refl left c.write_records.ensures))

pub returns : goal.returns
returns c =
    let live : is_dead c.args.self.now.store.cached ≡ false = search rules in
    let free : IsCaughtUp c.args.self.now = search rules in
    let none : unwritten c.args.self.now.store.cached ≡ 0 = search rules in
    promises c.args.self.now free live none c.foresee.ensures c.rest.ensures.serves
