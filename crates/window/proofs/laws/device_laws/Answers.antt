use Rattle.window.proofs.InFlight.{parts_follow}
use Rattle.window.proofs.laws.device_laws.Goals as goal

pub returns : goal.returns
returns c = parts_follow
