use Rattle.std.proofs.Common.{arith}
use Rattle.redo_log.specs.Steps.{IsOn}
use Rattle.redo_log.proofs.{RecordSteps.within_more, TurnCalls.{two_bring, refused_brings, one_brings}}
use Rattle.redo_log.proofs.log.Log.make_turn.Goals as goal

pub make-requires : goal.make-requires
make-requires g c = within_more _ _ c.requires.fits c.turn_first-first.result c.turn_first-first.ensures.inside

pub make-requires-2 : goal.make-requires-2
make-requires-2 g c =
    let size = c.in_ok-make.ensures.performed.passes.size_stays in
    within_more _ _ (omega (arith, size, c.requires.fits)) c.in-Some.second (rw c.in-Some.is at c.turn_second.ensures).inside

pub returns : goal.returns
returns g c live =
    let on : IsOn c.args.self.now (g.M.Medium.state c.args.m.now) = record { live = live; fits = c.requires.fits } in
    two_bring c.requires.owed c.turn_first-first.ensures (rw c.in-Some.is at c.turn_second.ensures)
    (g.met.M.Medium.follows_through c.args.m.now c.make.new.m c.make-2.new.m) on c.in_ok-make.ensures c.make-2.ensures

pub returns-in_err-make : goal.returns-in_err-make
returns-in_err-make g c live =
    let on : IsOn c.args.self.now (g.M.Medium.state c.args.m.now) = record { live = live; fits = c.requires.fits } in
    refused_brings c.requires.owed c.turn_first-first.ensures c.from_residual.result c.from_residual.ensures.0 on c.in_err-make.ensures

pub returns-in_default : goal.returns-in_default
returns-in_default g c live =
    let on : IsOn c.args.self.now (g.M.Medium.state c.args.m.now) = record { live = live; fits = c.requires.fits } in
    one_brings c.requires.owed c.turn_first-first.ensures (rw c.in_default.is at c.turn_second.ensures) on c.in_ok-make.ensures
