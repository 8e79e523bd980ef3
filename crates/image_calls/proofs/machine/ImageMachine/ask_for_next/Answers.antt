use Rattle.std.proofs.{Common.refl}
use Rattle.store_calls.proofs.OutboxTaken.{longest, some_run}
use Rattle.image_calls.proofs.machine.ImageMachine.ask_for_next.Goals as goal

pub returns-in-Write : goal.returns-in-Write
returns-in-Write c = λ free room. let copies = c.in-Write.ensures in let gone = c.let_go.ensures in
    (rw gone refl, some_run _ _ _ _ _ copies room, longest _ _ _ _ _ _ copies gone)
