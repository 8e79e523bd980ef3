use Rattle.std.proofs.Common.{◌∙◌, ap, length}
use Rattle.window.specs.Window.{Window}
use Rattle.store_calls.proofs.OutboxTaken.{emptied}
use Rattle.disk_machine.specs.Plays.{medium_of}
use Rattle.disk_machine.proofs.refused.drain.Goals as goal

pub returns : goal.returns
returns c = record {
  emptied = emptied c.waiting-waiting.result (medium_of c.args.disk.now) (medium_of c.let_go.new.disk)
      (c.waiting-waiting.ensures.is ∙ ap (λ (w : Window). length w.outbox) c.medium.ensures.is) c.let_go.ensures.gone;
  rest = c.let_go.ensures.rest;
}
