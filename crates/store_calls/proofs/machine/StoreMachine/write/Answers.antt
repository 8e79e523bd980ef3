use Rattle.std.proofs.Common.{◌/◌, length, inr, refl, rules}
use Rattle.blocks.specs.{Prepared.IsTakenAtOnce}
use Rattle.store_calls.specs.{StoreMachine.IsCaughtUp, WritingBack.IsLeft, declared.writing_back.Aim.TheVariants.Batch}
use Rattle.store_calls.proofs.Doing.{accepts, puts_off}
use Rattle.store_calls.proofs.machine.StoreMachine.write.Goals as goal

pub returns-then-takes_at_once : goal.returns-then-takes_at_once
returns-then-takes_at_once c =
    let cost = c.put_blocks.ensures.cost in
    (c.in_ok-may_move.ensures.ok, accepts _ c.args.self.now _ refl c.put_blocks.ensures.is cost.none, cost)

pub returns-then-is_caught_up : goal.returns-then-is_caught_up
returns-then-is_caught_up c =
    let wants : ¬ IsTakenAtOnce c.args.self.now.store.cached c.args.block (length c.args.bytes.now / 512) = search rules in
    let free : IsCaughtUp c.args.self.now = search rules in
    let left : IsLeft Batch c.args.self.now.store = search rules in
    inr (
      c.in_ok-may_move.ensures.ok,
      refl,
      wants,
      inr (puts_off Batch c.args.self.now _ free refl left c.write_records.ensures),
    )
