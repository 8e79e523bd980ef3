use Rattle.store_calls.proofs.{Living.serves_throughout, CarriedOut.device_leaves}
use Rattle.store_calls.proofs.laws.store_laws.Goals as goal

pub returns : goal.returns
returns c = record { lives = serves_throughout; device = device_leaves }
