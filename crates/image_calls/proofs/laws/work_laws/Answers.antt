use Rattle.image_calls.proofs.Living.{leaves_throughout, leaves_all}
use Rattle.image_calls.proofs.laws.work_laws.Goals as goal

pub returns : goal.returns
returns c = record { leaves = leaves_throughout; device = leaves_all }
