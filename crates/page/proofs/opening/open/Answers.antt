use Rattle.std.proofs.Common.{◌≡◌, true, false, rules}
use Rattle.medium.specs.Sim.{ComesAfter}
use Rattle.page.proofs.Lives.{finds_next, next_book, on_next, refused}
use Rattle.page.proofs.opening.open.Goals as goal

pub returns-in-Ok : goal.returns-in-Ok
returns-in-Ok c = λ book leaves ours none.
    let ahead : c.args.goes_ahead ≡ true = search rules in
    let starts = c.in-Ok.ensures.starts in record {
      later = next_book c.args.medium book leaves;
      finds = finds_next c.args.medium book leaves;
      fits = starts.started.serves (next_book c.args.medium book leaves) (on_next c.args.medium book leaves);
      live = starts.started.live;
      policy = rw ahead starts.policy;
      follows = starts.leaves.follows;
    }

pub returns-in-Err : goal.returns-in-Err
returns-in-Err c = λ book leaves ours none.
    let starts = c.in-Err.ensures.starts in record {
      later = next_book c.args.medium book leaves;
      finds = finds_next c.args.medium book leaves;
      leaves = refused c.args.medium book leaves c.in-Err.error.medium ComesAfter none starts.leaves;
      fault = c.in-Err.error.fault;
      cause = starts.cause;
      follows = starts.leaves.follows;
    }

pub returns-in-Ok-start : goal.returns-in-Ok-start
returns-in-Ok-start c = λ book leaves ours none.
    let late : c.args.goes_ahead ≡ false = search rules in
    let starts = c.in-Ok-start.ensures in record {
      later = next_book c.args.medium book leaves;
      finds = finds_next c.args.medium book leaves;
      fits = starts.ok.serves (next_book c.args.medium book leaves) (on_next c.args.medium book leaves);
      live = starts.ok.live;
      policy = rw late starts.policy;
      follows = starts.leaves.follows;
    }

pub returns-in-Err-start : goal.returns-in-Err-start
returns-in-Err-start c = λ book leaves ours none.
    let starts = c.in-Err-start.ensures in record {
      later = next_book c.args.medium book leaves;
      finds = finds_next c.args.medium book leaves;
      leaves = refused c.args.medium book leaves c.in-Err-start.error.medium ComesAfter none starts.leaves;
      fault = c.in-Err-start.error.fault;
      cause = starts.err;
      follows = starts.leaves.follows;
    }
