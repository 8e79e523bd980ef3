use Rattle.store_calls.proofs.OutboxTaken.{longest, some_run}
use Rattle.store_calls.proofs.machine.StoreMachine.ask_in_order.Goals as goal

pub returns-in-Write : goal.returns-in-Write
returns-in-Write c = λ lacks free room.
    let copies = rw c.medium.ensures.is at c.in-Write.ensures in
    let hands = c.hand_out.ensures free in
    (hands, some_run _ _ _ _ _ copies room, longest _ _ _ _ _ _ copies hands.gone, lacks)
