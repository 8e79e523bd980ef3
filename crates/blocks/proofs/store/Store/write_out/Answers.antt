use Rattle.std.{proofs.Common.{ℕ, ◌∙◌, arith, ap, rules}, specs.Prelude.Ok}
use Rattle.medium.specs.Sent.{SendsUpTo}
use Rattle.theorems.proofs.Steady.{writes_on}
use Rattle.blocks.{specs.Passing.PassesPaid, proofs.TurnsJoined.{paid_then, on_paid, rested_paid}}
use Rattle.blocks.proofs.store.Store.write_out.Goals.{After-step}
use Rattle.blocks.proofs.store.Store.write_out.Goals as goal

-- a step is made
step_passes : (g : _) (c : After-step g) → {sends : ℕ}
    → SendsUpTo sends (g.M.Medium.state c.args.self.now.medium) (g.M.Medium.state c.step.new.self.medium)
    → PassesPaid g.M.Medium.state g.M.Medium.follows sends c.args.self.now c.step.new.self
step_passes g c few =
    let passes = c.step.ensures.passes in
    paid_then g.met.M.Medium.follows_through c.loop.invariant.passes c.loop.invariant.live
    (on_paid (omega (arith, c.loop.invariant.under_way)) c.step.ensures.steps.falls (omega (arith, passes.calls)) passes) few

pub loop-init : goal.loop-init
loop-init g c = search (rules, arith, rested_paid, g.met.M.Medium.follows_itself, g.met.M.Medium.sound)

pub returns-in_err-step : goal.returns-in_err-step
returns-in_err-step g c =
    let passes = step_passes g (goal.at.returns-in_err-step g c).After-step {sends = c.args.self.now.cached.log.steps_left}
    (omega (arith, c.loop.invariant.sends, c.step.ensures.passes.sent, c.loop.invariant.under_way)) in
    search rules

pub loop-preserved : goal.loop-preserved
loop-preserved g c =
    let gone = c.step.ensures.steps.record_step.live c.in_ok-step.ensures.steps.answer in
    let more = c.step.ensures.steps.more (c.in_ok-step.was ∙ ap Ok c.in-More.is) in
    let so_far = c.loop.invariant in
    let on = writes_on c.args.self.now.cached.log gone.1 so_far.under_way gone.2.log so_far.so_far in
    let wrote = on.0 more in
    search (rules, arith, so_far, c.step.ensures, step_passes g (goal.at.loop-preserved g c).After-step)

pub returns : goal.returns
returns g c =
    let gone = c.step.ensures.steps.record_step.live c.in_ok-step.ensures.steps.answer in
    let none = (c.step.ensures.steps.durable (c.in_ok-step.was ∙ ap Ok c.in_default.is)).0 in
    let so_far = c.loop.invariant in
    let on = writes_on c.args.self.now.cached.log gone.1 so_far.under_way gone.2.log so_far.so_far in
    let wrote = on.1 none in
    let passes = step_passes g (goal.at.returns g c).After-step {sends = c.args.self.now.cached.log.steps_left}
    (omega (arith, so_far.sends, c.step.ensures.passes.sent, so_far.under_way)) in
    search (rules, arith)
