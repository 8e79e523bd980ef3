use Rattle.std.proofs.Common.{inr, refl, rules}
use Rattle.store_calls.specs.{StoreMachine.Machine, Transfers.IsIdle}
use Rattle.store_calls.proofs.Doing.{done_free, turn_serves}
use Rattle.store_calls.proofs.machine.StoreMachine.work_ahead.Goals as goal

pub returns-then-is_idle : goal.returns-then-is_idle
returns-then-is_idle c =
    let rests : IsIdle c.args.self.now = search rules in
    let works = c.work_at_rest.ensures in
    let new : Machine = record c.args.self.now { store = c.work_at_rest.new.store } in inr (
      rests,
      refl,
      done_free c.args.self.now new rests.caught_up refl works.appends works.turn.goes_on.layout_stays works.turn.goes_on.keeps_stays,
      works,
      turn_serves c.args.self.now new rests.caught_up refl works.appends works.turn,
    )
