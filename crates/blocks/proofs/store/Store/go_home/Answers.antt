use Rattle.std.proofs.{Common.{arith, inr, rules}, lemmas.Bool.Decides.nat_tests}
use Rattle.medium.specs.Sent.{sent}
use Rattle.redo_log.specs.Value.{IsAway}
use Rattle.theorems.proofs.Steady.{begins_home, goes_on_home, all_home, few_home}
use Rattle.blocks.proofs.{TurnsJoined.{paid_then, paid_more, rested_paid}, store.Store.go_home.Goals.After-bring_home}
use Rattle.blocks.proofs.store.Store.go_home.Goals as goal

away : (g : _) (c : After-bring_home g) → IsAway c.loop-self.self.cached.log
away g c = rw (← c.self-in-loop-self.view_is) (c.is_away.ensures.0 c.loop-self-test.true)

pub loop-self-init : goal.loop-self-init
loop-self-init g c = search (rules, arith, rested_paid, g.met.M.Medium.follows_itself, g.met.M.Medium.sound, begins_home)

pub loop-self-preserved : goal.loop-self-preserved
loop-self-preserved g c =
    let so_far = c.loop-self.invariant in
    let brings = c.bring_home.ensures.way in
    let live = c.in_ok-bring_home.ensures.answer in
    let passes = paid_then {all = sent (g.M.Medium.state c.bring_home.new.self.medium)} g.met.M.Medium.follows_through so_far.passes
    so_far.live c.bring_home.ensures.passes (omega arith) in
    let home = goes_on_home so_far.home (away g (goal.at.loop-self-preserved g c).After-bring_home) (brings.log live) (brings.calls live)
    brings.sent in
    grind (arith, passes, live, home, brings, so_far.flushed, so_far.stays)

pub returns-in_err-bring_home : goal.returns-in_err-bring_home
returns-in_err-bring_home g c =
    let so_far = c.loop-self.invariant in
    let brings = c.bring_home.ensures.way in
    let few = few_home so_far.home (inr (away g (goal.at.returns-in_err-bring_home g c).After-bring_home, brings.sent))
    (rw (← c.self.view_is) c.has_room-few.ensures.few) in
    let passes = paid_then g.met.M.Medium.follows_through so_far.passes so_far.live c.bring_home.ensures.passes few in
    grind (arith, passes, c.in_err-bring_home.ensures.answer, brings, so_far)

pub returns : goal.returns
returns g c =
    let few = c.has_room-few.ensures.few in
    let view = c.self-in-loop-self.view_is in
    let home = c.is_away.ensures.1 in
    grind (arith, nat_tests, paid_more, few_home, all_home, c.self.view_is, c.loop-self.invariant, c.loop-self-test.false)
