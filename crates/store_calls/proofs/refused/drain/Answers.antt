use Rattle.std.proofs.Common.{◌∙◌, ap, length}
use Rattle.window.specs.{Window.Window}
use Rattle.store_calls.proofs.{OutboxTaken.emptied}
use Rattle.store_calls.proofs.refused.drain.Goals as goal

pub returns : goal.returns
returns c = record {
  emptied = emptied c.waiting-waiting.result c.args.store.now.medium c.let_go.new.store.medium
      (c.waiting-waiting.ensures.is ∙ ap (λ (w : Window). length w.outbox) c.medium.ensures.is) c.let_go.ensures.gone;
  untouched = c.let_go.ensures.untouched;
}
