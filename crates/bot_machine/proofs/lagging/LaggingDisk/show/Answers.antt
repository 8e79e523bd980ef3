use Rattle.bot_machine.proofs.LaggingRuns.{awaits_armed}
use Rattle.bot_machine.proofs.lagging.LaggingDisk.show.Goals as goal

pub invariant_of-self : goal.invariant_of-self
invariant_of-self g c = awaits_armed c.self.inside.disk c.show.new.self c.show.ensures.others c.self.inside.pending c.self.invariant
