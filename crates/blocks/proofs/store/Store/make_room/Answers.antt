use Rattle.std.proofs.Common.{false, ◌≤◌, ◌<◌, ℕ, length, ap, arith, rules}
use Rattle.medium.specs.Sent.{sent, SendsUpTo}
use Rattle.redo_log.specs.Value.{HasRoom, sends_of_oldest, most_retire_sends}
use Rattle.theorems.{specs.Room.RetiresForRoom, proofs.Steady.{IsFull, retires_none, retires_more, retires_refused, retires_room}}
use Rattle.blocks.{specs.{StoreValue.steps_left, Passing.PassesPaid}, proofs.TurnsJoined.{paid_then, on_paid, paid_more, rested_paid}}
use Rattle.blocks.proofs.store.Store.make_room.Goals.{After-retire}
use Rattle.blocks.proofs.store.Store.make_room.Goals as goal

-- the log had no room, and has none, and a record waits, of which one step is made
at_work : (g : _) (c : After-retire g) → IsFull c.args.self.now.cached.log c.loop-self.self.cached.log
    × (HasRoom c.args.self.now.cached.log → ⊥) × (0 < length c.loop-self.self.cached.log.waiting) × (0 < steps_left c.loop-self.self.cached)
at_work g c =
    let live = rw (← c.self-in-loop-self.view_is) at c.loop-self.invariant.live in
    let idle = rw (← c.self-in-loop-self.view_is) at c.loop-self.invariant.idle in
    let under_way = c.self-in-loop-self.invariant.none_under_way live idle in
    grind (arith, under_way, idle, c.self-in-loop-self.view_is, c.loop-self-test.true, c.has_room.ensures, c.self, c.loop-self.invariant)

was_full : (g : _) (c : After-retire g) → HasRoom c.args.self.now.cached.log → ⊥
was_full g c = (at_work g c).1

step_passes : (g : _) (c : After-retire g) → {sends : ℕ}
    → SendsUpTo sends (g.M.Medium.state c.args.self.now.medium) (g.M.Medium.state c.retire.new.self.medium)
    → PassesPaid g.M.Medium.state g.M.Medium.follows sends c.args.self.now c.retire.new.self
step_passes g c few =
    let left = at_work g c in
    paid_then g.met.M.Medium.follows_through c.loop-self.invariant.passes c.loop-self.invariant.live
    (on_paid left.3 (c.retire.ensures.falls left.2) c.retire.ensures.passes.calls c.retire.ensures.passes) few

pub loop-self-init : goal.loop-self-init
loop-self-init g c = search (rules, arith, rested_paid, g.met.M.Medium.follows_itself, g.met.M.Medium.sound, retires_none)

pub loop-self-smaller : goal.loop-self-smaller
loop-self-smaller g c =
    c.in_ok-retire.ensures.falls (at_work g (goal.at.loop-self-smaller g c).After-retire).2 c.in_ok-retire.ensures.answer

pub loop-self-preserved : goal.loop-self-preserved
loop-self-preserved g c =
    let at = (goal.at.loop-self-preserved g c).After-retire in
    let live = c.in_ok-retire.ensures.answer in
    let full = at_work g at in
    let retiring = c.retire.ensures.retiring in
    let retires = retires_more {after = g.M.Medium.state c.retire.new.self.medium} full.0 c.loop-self.invariant.retires
    (retiring.live full.2 live).1 (retiring.counted live) retiring.sent (retiring.flushed live) in
    let passes = step_passes g at {sends = sent (g.M.Medium.state c.retire.new.self.medium)} (omega arith) in
    grind (arith, passes, full.1, retires, live, c.retire.ensures.idle, retiring, c.loop-self.invariant)

pub returns-in_err-retire : goal.returns-in_err-retire
returns-in_err-retire g c =
    let at = (goal.at.returns-in_err-retire g c).After-retire in
    let old = c.args.self.now.cached.log in
    let few : sends_of_oldest old ≤ most_retire_sends old.shape.format = rw (← c.self.view_is) c.has_room-few.ensures.few in
    let after = g.M.Medium.state c.retire.new.self.medium in
    let all = retires_refused (at_work g at).0 c.loop-self.invariant.retires after c.retire.ensures.retiring.sent in
    let died = c.retire.ensures.retiring.dies c.in_err-retire.ensures.answer.1 in
    let so_far = c.loop-self.invariant in
    let retiring = c.retire.ensures.retiring in
    let passes = step_passes g at {sends = most_retire_sends old.shape.format} (omega (arith, all, few)) in
    let retires : RetiresForRoom false old c.retire.new.self.cached.log =
    grind (arith, died.is, so_far.retires.so_far, c.retire.ensures.retiring, was_full g at) in
    grind (arith, passes, retires, was_full g at, so_far.active, so_far.frozen, retiring.active, retiring.frozen, c.in_err-retire.ensures)

pub returns : goal.returns
returns g c =
    let old = c.args.self.now.cached.log in
    let few : sends_of_oldest old ≤ most_retire_sends old.shape.format = rw (← c.self.view_is) c.has_room-few.ensures.few in
    let so_far = c.loop-self.invariant in
    let has : HasRoom c.loop-self.self.cached.log =
    grind (arith, c.self-in-loop-self.view_is, c.has_room.ensures.room, c.loop-self-test.false) in
    let before = g.M.Medium.state c.args.self.now.medium in
    let sent : SendsUpTo (most_retire_sends old.shape.format) before (g.M.Medium.state c.loop-self.self.medium) =
    grind (arith, few, so_far.retires) in
    let all = retires_room (λ room. (ap (λ s. s.cached.log) (so_far.stays room), ap (λ s. g.M.Medium.state s.medium) (so_far.stays room)))
    has so_far.retires in
    record {
      passes = paid_more so_far.passes sent;
      answer = so_far.live;
      retires = grind (arith, so_far.stays, so_far.retires.so_far);
      room = has;
      made = all.0;
      quiet = grind (arith, so_far.stays);
      active = so_far.active;
      frozen = so_far.frozen;
      cost = all.1;
      flushed = all.2;
      blocks = λ on. absurd (cc on);
    }
