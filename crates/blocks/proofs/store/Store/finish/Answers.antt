use Rattle.std.proofs.{Common.{◌≡◌, ◌<◌, ◌≤◌, ◌+◌, ◌∙◌, length, ap, sym, arith, true, false}, lemmas.Result.on_ok_weaker}
use Rattle.std.specs.Prelude.{OnOk}
use Rattle.medium.specs.{Medium.State, Sent.sent}
use Rattle.redo_log.specs.Value.{begun, most_steps}
use Rattle.theorems.{proofs.Steady.{fills, keeps_on, made_finished, finishes_under_way, begun_costs}, specs.Retiring.{firsts_in, finished}}
use Rattle.theorems.specs.Steady.{IsFilling, IsSteady}
use Rattle.blocks.{specs.{StoreValue.is_dead, OneBatch.SendsOneBatch, Passing.PassesPaid, Sent.batch_sends}, proofs.TurnsJoined.kept_paid}
use Rattle.blocks.proofs.{TurnsJoined.{paid_then, rested_paid}, OneBatchSent.room_sent}
use Rattle.blocks.proofs.store.Store.finish.Goals.{After-make_ready, After-begin}
use Rattle.blocks.proofs.store.Store.finish.Goals as goal

pub returns-then-is_dead-clause-passes : goal.returns-then-is_dead-clause-passes
returns-then-is_dead-clause-passes g c = rested_paid g.met.M.Medium.follows_itself g.met.M.Medium.sound

-- a record is under way, which is that of the frozen batch
pub returns-then-is_writing : goal.returns-then-is_writing
returns-then-is_writing g c =
    let writes = c.is_writing.ensures in
    grind (arith, finishes_under_way, c.is_dead.ensures, c.if-is_dead.false, writes, c.if-is_writing.true, c.write_out.ensures)

-- there is nothing to write
pub returns-then-has_free_batch : goal.returns-then-has_free_batch
returns-then-has_free_batch g c =
    let old = c.args.self.now in
    let live : is_dead old.cached ≡ false = sym c.is_dead.ensures ∙ c.if-is_dead.false in
    let idle = c.is_writing.ensures.rests live c.if-is_writing.false in
    let empty = c.has_free_batch.ensures.0 c.if-has_free_batch.true in
    let passes = rested_paid {Follows = g.M.Medium.follows} {sends = batch_sends old.cached} {old = old} g.met.M.Medium.follows_itself
    g.met.M.Medium.sound in
    grind (arith, live, idle, empty, passes)

-- room was made, for which nothing is sent where there is some
made_room : (g : _) (c : After-make_ready g) → {after : State}
    → sent after ≤ sent (g.M.Medium.state c.make_ready.new.self.medium) + most_steps c.args.self.now.cached.log.shape.format
    → SendsOneBatch c.args.self.now.goes_ahead (g.M.Medium.state c.args.self.now.medium) after c.args.self.now.cached.log
made_room g c few =
    let ready = c.make_ready.ensures in
    room_sent _ _ _ (g.M.Medium.state c.make_ready.new.self.medium) _ ready.passes.sent
    (λ roomy. ap (λ m. sent (g.M.Medium.state m)) (ready.quiet roomy)) few

pub returns-in_err-make_ready-clause-one_batch : goal.returns-in_err-make_ready-clause-one_batch
returns-in_err-make_ready-clause-one_batch g c =
    made_room g (goal.at.returns-in_err-make_ready-clause-one_batch g c).After-make_ready (omega arith)

-- and the record was begun
begun_passes : (g : _) (c : After-begin g) → PassesPaid g.M.Medium.state g.M.Medium.follows (batch_sends c.args.self.now.cached)
    c.args.self.now c.begin.new.self
begun_passes g c =
    let ready = c.make_ready.ensures.passes in
    let begins = c.begin.ensures in
    paid_then {last = 0} g.met.M.Medium.follows_through ready c.in_ok-make_ready.ensures.answer
    (kept_paid g.met.M.Medium.follows_itself begins.keeps (λ live. omega (arith, begins.falls live)))
    (omega (arith, ready.sent, ap (λ m. sent (g.M.Medium.state m)) begins.keeps.medium))

pub returns-in_err-begin : goal.returns-in_err-begin
returns-in_err-begin g c =
    let ready = c.make_ready.ensures in
    let at = goal.at.returns-in_err-begin g c in
    let one_batch = made_room g at.After-make_ready {after = g.M.Medium.state c.begin.new.self.medium}
    (omega (arith, ap (λ m. sent (g.M.Medium.state m)) c.begin.ensures.keeps.medium)) in
    let dead = c.from_residual-in_err-begin.ensures in
    let passes = begun_passes g at.After-begin in
    grind (arith, passes, one_batch, c.begin.ensures, ready.retires, ready.active, ready.frozen, dead, c.if-is_dead.false)

-- the record of the frozen batch is begun and written
pub returns : goal.returns
returns g c =
    let old = c.args.self.now.cached in
    let ahead = c.args.self.now.goes_ahead in
    let numbers = old.frozen.numbers in
    let live : is_dead old ≡ false = sym c.is_dead.ensures ∙ c.if-is_dead.false in
    let idle = c.is_writing.ensures.rests live c.if-is_writing.false in
    let some : 0 < length numbers = grind (arith, c.if-has_free_batch.false, c.has_free_batch.ensures) in
    let r = c.make_ready.ensures in
    let room = c.in_ok-make_ready.ensures in
    let b = c.begin.ensures in
    let w = c.write_out-2.ensures in
    let first : c.begin.new.self.cached.log ≡ begun numbers (firsts_in old.frozen) old.frozen.bytes c.make_ready.new.self.cached.log =
    rw (← r.frozen) (b.live c.in_ok-begin.ensures.answer).1 in
    let shape = r.passes.turn.goes_on.layout_stays in
    let quiet = ap (λ m. sent (g.M.Medium.state m)) b.keeps.medium in
    let few = rw shape at c.in_ok-begin.ensures.begun in
    let finishes : OnOk c.write_out-2.result (c.write_out-2.new.self.cached.log ≡ finished ahead old.frozen old.log) =
    on_ok_weaker c.write_out-2.result (λ written. made_finished ahead numbers (firsts_in old.frozen) old.frozen.bytes old.log _ _ idle some
    room.made (rw first at written)) w.written in
    let fill = λ (on : ahead ≡ true) (f : IsFilling old.log). fills _ (firsts_in old.frozen) old.frozen.bytes _ f (r.blocks on) some in
    let stay = λ (o : ahead ≡ true) (s : IsSteady old.log). keeps_on _ (firsts_in old.frozen) old.frozen.bytes _ s (r.blocks o) some in
    let costs = begun_costs ahead numbers old.log idle some in
    record {
      passes = paid_then g.met.M.Medium.follows_through (begun_passes g (goal.at.returns g c).After-begin) c.in_ok-begin.ensures.answer
          w.passes (omega (arith, r.passes.sent, w.passes.sent, few.1, quiet));
      batch = grind (arith, live, idle, some, w.answer, w.waits, w.head, w.active, w.done, b, r.retires, r.active, finishes, fill, stay);
      cost = grind (arith, rw (first, shape, b.keeps.medium) at w.exactly, room.cost, costs);
      flushes = grind (arith, rw (first, shape, b.keeps.medium) at w.flushes, room.flushed, costs);
      one_batch = made_room g (goal.at.returns g c).After-make_ready (omega (arith, quiet, few.1, w.passes.sent));
    }
