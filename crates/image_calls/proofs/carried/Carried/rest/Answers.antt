use Rattle.image_calls.proofs.Carrying.{leaves_what_it_may, holds_on}
use Rattle.image_calls.proofs.carried.Carried.rest.Goals as goal

pub returns-clause-leaves : goal.returns-clause-leaves
returns-clause-leaves g c = leaves_what_it_may _ _ _ _ _ _ _ _ _ _ g.met.T.Machine.leaves g.met.T.Machine.goes_on c.args.self.now

pub returns-clause-holds : goal.returns-clause-holds
returns-clause-holds g c = holds_on _ _ _ _ _ _ _ _ _ _ g.met.T.Machine.leaves g.met.T.Machine.goes_on c.args.self.now
