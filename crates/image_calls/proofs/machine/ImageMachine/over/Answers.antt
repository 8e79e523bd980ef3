use Rattle.image_calls.proofs.{AtRest.begins_since}
use Rattle.image_calls.proofs.machine.ImageMachine.over.Goals as goal

pub returns-clause-since : goal.returns-clause-since
returns-clause-since c = λ first none waits. begins_since first c.args.work c.device_laws.ensures none waits
