use Rattle.std.proofs.{Common.refl}
use Rattle.store_calls.proofs.{Hearing.done_safe}
use Rattle.store_calls.proofs.machine.StoreMachine.done.Goals as goal

pub returns : goal.returns
returns c = record {
  is = c.hear-told.ensures;
  stays = λ honest. done_safe _ _ _ _ _ _ refl c.hear-told.ensures honest;
  rests = c.rest.ensures;
}
