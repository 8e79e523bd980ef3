use Rattle.std.proofs.{Common.refl}
use Rattle.image_calls.proofs.{Carrying.begun}
use Rattle.image_calls.proofs.carried.Carried.new.Goals as goal

pub returns-clause-begins : goal.returns-clause-begins
returns-clause-begins g c = begun _ _ _ _ _ _ _ _ _ _ g.met.T.Machine.leaves g.met.T.Machine.goes_on _ refl
