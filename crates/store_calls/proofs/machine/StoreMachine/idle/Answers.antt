use Rattle.std.proofs.Common.{inr, refl, rules}
use Rattle.store_calls.specs.{StoreMachine.Machine, Transfers.IsIdle}
use Rattle.store_calls.proofs.Doing.{done_free, turn_serves}
use Rattle.store_calls.proofs.machine.StoreMachine.idle.Goals as goal

pub returns : goal.returns
returns c =
    let rests : IsIdle c.args.self.now = search rules in
    let makes = c.make_steps.ensures.makes in
    let turn = makes.made.passes.turn in
    let new : Machine = record c.args.self.now { store = c.make_steps.new.store } in inr (
      rests,
      refl,
      done_free c.args.self.now new rests.caught_up refl makes.appends turn.goes_on.layout_stays turn.goes_on.keeps_stays,
      c.make_steps.ensures,
      turn_serves c.args.self.now new rests.caught_up refl makes.appends turn,
    )
