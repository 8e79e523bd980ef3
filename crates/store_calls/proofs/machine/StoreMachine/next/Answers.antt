use Rattle.store_calls.proofs.{Handing.asks_safe}
use Rattle.store_calls.proofs.machine.StoreMachine.next.Goals as goal

pub returns-in-Nothing : goal.returns-in-Nothing
returns-in-Nothing c =
    let asks = c.ask.ensures c.in-Nothing.is c.requires in record {
      asks = asks;
      stays = asks_safe _ _ _ _ _ asks;
    }
