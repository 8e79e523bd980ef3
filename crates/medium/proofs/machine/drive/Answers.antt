use Rattle.std.proofs.Common.{refl}
use Rattle.medium.proofs.Driving.{not_driven, driven_call, driven_refused, tallied_all, fewer_left}
use Rattle.medium.proofs.machine.drive.Goals as goal

pub loop-call-init : goal.loop-call-init
loop-call-init g c = (
  not_driven g.met.T.Machine.leaves c.args.machine.now c.args.sector.now c.args.m.now (g.met.M.Medium.sound c.args.m.now),
  g.met.M.Medium.follows_itself c.args.m.now,
)

pub returns-in-Err-clause-driven : goal.returns-in-Err-clause-driven
returns-in-Err-clause-driven g c = driven_refused g.met.T.Machine.leaves c.requires c.loop-call.invariant.0 c.in-Some.ensures
    c.in-Err.ensures.performed c.in-Err.fault refl c.refused.new.self c.refused.ensures

pub loop-call-preserved : goal.loop-call-preserved
loop-call-preserved g c = (
  driven_call g.met.T.Machine.leaves c.requires c.loop-call.invariant.0 c.in-Some.ensures
      c.in_default-perform.ensures.performed refl c.made.new.self c.made.ensures g.met.T.Machine.goes_on,
  g.met.M.Medium.follows_through _ _ _ c.loop-call.invariant.1 c.perform.ensures.follows,
)

pub loop-call-smaller : goal.loop-call-smaller
loop-call-smaller g c =
    fewer_left _ c.in-Some.ensures.pays (c.in-Some.ensures.rests c.perform.new.sector c.made.new.self c.made.ensures)

pub returns-clause-done : goal.returns-clause-done
returns-clause-done g c =
    let end = c.in_default.ensures.0 in
    let so_far = c.loop-call.invariant.0 in
    (end, tallied_all so_far.tallied so_far.on.1 end)
