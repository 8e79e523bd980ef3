use Rattle.image_calls.proofs.{AtRest.rests}
use Rattle.image_calls.proofs.machine.ImageMachine.rest.Goals as goal

pub returns : goal.returns
returns c = rests c.args.self.now c.device_laws.ensures c.waiting-waiting.ensures.device
