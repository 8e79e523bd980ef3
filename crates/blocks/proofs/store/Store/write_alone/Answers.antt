use Rattle.std.proofs.{Common.{arith, rules}, lemmas.Result.err_from_is_err_and}
use Rattle.logical_blocks.specs.Book.{write_of}
use Rattle.theorems.{specs.{Retiring.firsts_in, Headroom.HasHeadroom}, proofs.Headroom.{headroom_finished, one_each, one_durable}}
use Rattle.cache.proofs.Arrays.{unlisted_empty}
use Rattle.blocks.proofs.TurnsJoined.{paid_refused, paid_written, written_on}
use Rattle.blocks.proofs.store.Store.write_alone.Goals as goal

pub append-requires : goal.append-requires
append-requires g c =
    let shape = c.finish.ensures.passes.turn.goes_on.layout_stays in
    rw c.freeze.ensures.is (grind (arith, shape, c.requires.range, c.in_ok-finish.ensures.batch.done, unlisted_empty))

pub returns-in_err-finish : goal.returns-in_err-finish
returns-in_err-finish g c =
    let refused = err_from_is_err_and c.from_residual.result c.from_residual.ensures.1 in
    let passes = paid_refused {w = write_of c.args.address c.args.bytes.now} c.finish.ensures.passes in
    let quiet = c.finish.ensures.batch.rests in
    let one_batch = c.finish.ensures.one_batch in
    rw refused.1 (search rules)

pub returns : goal.returns
returns g c =
    let old = c.args.self.now.cached in
    let keeps = written_on c.freeze.ensures.keeps c.append.ensures.keeps in
    let batch = rw c.freeze.ensures.is at c.append.ensures.batch in
    let done = c.in_ok-finish.ensures.batch in
    let flushes = rw (← keeps.medium) at c.in_ok-finish.ensures.flushes in
    let firsts = firsts_in old.frozen in
    record {
      passes = paid_written c.finish.ensures.passes done.answers.answer keeps;
      answers = grind (arith, c.finish.ensures.batch, keeps.medium, done, c.requires.alone, c.requires.live, batch);
      batches = grind (arith, batch, done, headroom_finished old.frozen.numbers firsts old.frozen.bytes old.log);
      cost =
          let each = λ (head : HasHeadroom old.log). one_each old.frozen.numbers old.log head done.some in
          let records = λ (head : HasHeadroom old.log). one_durable old.frozen.numbers firsts old.frozen.bytes old.log head done.some in
          let one_batch = rw (← keeps.medium) at c.finish.ensures.one_batch in
          grind (arith, c.in_ok-finish.ensures, batch, done, flushes, each, records, one_batch);
    }
