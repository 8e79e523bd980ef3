use Rattle.std.proofs.Common.{rules}
use Rattle.usbdisk.proofs.live.file.FileWindowOutlet.pop.Goals as goal

pub returns-clause-unchanged : goal.returns-clause-unchanged
returns-clause-unchanged g c = rw c.carry.ensures.carried.lets_go.is (search rules)
