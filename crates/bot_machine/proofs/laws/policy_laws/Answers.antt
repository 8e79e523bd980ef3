use Rattle.bot_machine.proofs.Policy.{policy_is_unseen, disks_are_served}
use Rattle.bot_machine.proofs.laws.policy_laws.Goals as goal

pub returns-clause-unseen : goal.returns-clause-unseen
returns-clause-unseen g c = policy_is_unseen g.M.Medium.state

pub returns-clause-served : goal.returns-clause-served
returns-clause-served g c = disks_are_served g.M.Medium.state
