use Rattle.image_calls.proofs.{Keeping.asks_goes}
use Rattle.image_calls.proofs.machine.ImageMachine.next.Goals as goal

pub returns-clause-goes : goal.returns-clause-goes
returns-clause-goes c = asks_goes _ _ _ _ _ c.device_laws.ensures (c.ask-what.ensures c.requires) c.rest.ensures
