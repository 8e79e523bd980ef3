use Rattle.theorems.proofs.Ordering.{every_order}
use Rattle.theorems.proofs.orders.order_laws.Goals as goal

pub returns : goal.returns
returns g c = every_order g.M.Medium.state g.met.M.Medium.sound
