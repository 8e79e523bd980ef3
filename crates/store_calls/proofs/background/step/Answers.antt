use Rattle.store_calls.proofs.{Served.appends_log}
use Rattle.store_calls.proofs.background.step.Goals as goal

pub returns : goal.returns
returns c = let passes = c.work.ensures.passes in record {
  passes = passes;
  order = c.work.ensures.order;
  counts = c.work.ensures.steps;
  headroom = c.work.ensures.headroom;
  once = c.work.ensures.once;
  appends = appends_log 2 c.args.store.now c.work.new.self c.foresee.ensures passes.follows passes.sent passes.looks;
}
