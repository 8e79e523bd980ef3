use Rattle.medium.proofs.ArmedCalls.{fuse_falls, failure_counts_down, unarmed_refuses_nothing}
use Rattle.medium.proofs.SimSizes.{sizes_stay}
use Rattle.medium.proofs.laws.sim_laws.Goals as goal

pub returns-clause-fuse : goal.returns-clause-fuse
returns-clause-fuse c = fuse_falls

pub returns-clause-failure : goal.returns-clause-failure
returns-clause-failure c = failure_counts_down

pub returns-clause-unarmed : goal.returns-clause-unarmed
returns-clause-unarmed c = unarmed_refuses_nothing

pub returns-clause-sizes : goal.returns-clause-sizes
returns-clause-sizes c = sizes_stay
