use Rattle.std.{proofs.{Common.{◌≡◌, ◌∙◌, ◌+◌, ap, arith, [], true, rules}, lemmas.Result.on_ok_weaker}, specs.Prelude.OnOk}
use Rattle.medium.specs.{declared.fault.MediumFault.TheVariants.Flush, Sent.sent}
use Rattle.journal.specs.Places.{Shape}
use Rattle.theorems.proofs.{Steady.{steady_sync, costs_behind, roomy_both, once}, Headroom.{both_each, headroom_finished, both_durable}}
use Rattle.theorems.specs.Retiring.{finished, both_calls, both_flushes, firsts_in}
use Rattle.blocks.{proofs.{BookTurns.settles, TurnsJoined.{kept_paid, paid_then}, EmptyBatches.none_of}, specs.Sent.most_sent}
use Rattle.blocks.specs.Sent.{batch_sends}
use Rattle.blocks.proofs.store.Store.sync.Goals as goal

pub returns-clause-passes : goal.returns-clause-passes
returns-clause-passes g c =
    let first = c.finish.ensures.passes in
    let keeps = c.freeze.ensures.keeps in
    let last = c.finish-2.ensures.passes in
    let live = c.in_ok-finish.ensures.batch.answers.answer in
    let quiet = ap (λ m. sent (g.M.Medium.state m)) keeps.medium in
    let same = ap (λ (shape : Shape). most_sent shape.format) (keeps.turn.goes_on.layout_stays ∙ first.turn.goes_on.layout_stays) in
    let swap = paid_then {last = 0} {all = batch_sends c.args.self.now.cached} g.met.M.Medium.follows_through first live
    (kept_paid g.met.M.Medium.follows_itself keeps (grind (arith, c.freeze.ensures.is, c.in_ok-finish.ensures.batch.done)))
    (omega (arith, first.sent, quiet)) in
    paid_then g.met.M.Medium.follows_through swap (rw c.freeze.ensures.is live) last (omega (arith, first.sent, last.sent, quiet, same))

pub returns-clause-ok : goal.returns-clause-ok
returns-clause-ok g c book fits =
    let last = rw (c.freeze.ensures.is) at c.finish-2.ensures in
    let active : c.finish-2.new.self.cached.active.numbers ≡ [] = rw last.batch.active c.in_ok-finish.ensures.batch.done.1 in
    let half = (rw (c.freeze.ensures.is) at c.freeze.ensures.keeps).turn.fits book (c.finish.ensures.passes.turn.fits book fits) in
    on_ok_weaker c.finish-2.result (λ done. settles done.1 active (last.passes.turn.fits book half)) last.batch.done

-- each batch has become a record
both_finished : (g : _) (c : goal.After-finish-2 g) → OnOk c.finish-2.result (c.finish-2.new.self.cached.log
    ≡ finished c.args.self.now.goes_ahead c.args.self.now.cached.active
    (finished c.args.self.now.goes_ahead c.args.self.now.cached.frozen c.args.self.now.cached.log))
both_finished g c =
    rw (c.freeze.ensures.is, c.finish.ensures.batch.active, c.in_ok-finish.ensures.batch.finishes, c.finish.ensures.passes.policy)
    at c.finish-2.ensures.batch.finishes

pub returns-clause-batches : goal.returns-clause-batches
returns-clause-batches g c =
    let old = c.args.self.now.cached in
    let finishes = both_finished g c in
    let first = c.in_ok-finish.ensures.batch in
    let last = rw (c.freeze.ensures.is, c.finish.ensures.batch.active, c.finish.ensures.passes.policy) at c.finish-2.ensures.batch in
    record {
      active = search rules;
      rests = grind (arith, last.rests, first.rests, none_of old.active.numbers, none_of old.frozen.numbers);
      waits = search rules;
      finishes = finishes;
      retires = search rules;
      fills = grind (arith, first.rests, last.fills);
      stays = λ on steady. last.stays on (first.stays on steady);
      headroom =
          let one = headroom_finished old.frozen.numbers (firsts_in old.frozen) old.frozen.bytes old.log in
          let both = headroom_finished old.active.numbers (firsts_in old.active) old.active.bytes (finished true old.frozen old.log) in
          grind (arith, finishes, last.answers.answer, one, both);
    }

pub returns-clause-cost : goal.returns-clause-cost
returns-clause-cost g c =
    let old = c.args.self.now.cached in
    let frozen = old.frozen.numbers in
    let active = old.active.numbers in
    let ahead = c.args.self.now.goes_ahead in
    let first = c.in_ok-finish.ensures in
    let cost = rw (c.freeze.ensures.is, c.finish.ensures.batch.active, c.finish.ensures.passes.policy) at c.finish-2.ensures.cost in
    let flushed = rw (c.freeze.ensures.is, c.finish.ensures.batch.active) at c.finish-2.ensures.flushes in
    let same = costs_behind ahead old.log.steps_left frozen active (firsts_in old.frozen) old.frozen.bytes old.log in
    let calls : OnOk c.finish-2.result ((g.M.Medium.state c.finish-2.new.self.medium).calls
    ≡ (g.M.Medium.state c.args.self.now.medium).calls + both_calls ahead frozen active old.log) =
    grind (arith, rw first.batch.finishes at cost, same, first.cost) in
    let flushes : OnOk c.finish-2.result ((g.M.Medium.state c.finish-2.new.self.medium).made Flush
    ≡ (g.M.Medium.state c.args.self.now.medium).made Flush + both_flushes ahead frozen active old.log) =
    grind (arith, rw first.batch.finishes at flushed, same, first.flushes) in
    record {
      exactly = calls;
      roomy = grind (arith, calls, roomy_both ahead frozen active old.log);
      steady = λ on still none some. rw (on, steady_sync frozen active old.log still none some) at calls;
      flushes = flushes;
      once = λ two room none some. rw (once ahead frozen active old.log two room none some) at flushes;
      each_once = λ on head. rw (on, both_each frozen active old.log head first.batch.some) at flushes;
      as_many = λ on head live.
          let each = both_each frozen active old.log head first.batch.some in
          let records = both_durable old.frozen old.active old.log head first.batch.some in
          grind (arith, flushes, both_finished g c, c.finish-2.ensures.batch.answers.answer, each, records, on, live);
      steady_once = λ two still none some. rw (once ahead frozen active old.log two (grind (arith, still)) none some) at flushes;
      one_batch = λ none. rw (c.freeze.ensures.is, first.batch.rests none) at c.finish-2.ensures.one_batch;
    }
