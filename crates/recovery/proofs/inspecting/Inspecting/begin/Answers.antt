use Rattle.recovery.{specs.Starting.no_step, proofs.Looks.{look_begun, can_look}}
use Rattle.recovery.proofs.inspecting.Inspecting.begin.Goals as goal

pub returns-clause-held : goal.returns-clause-held
returns-clause-held g c m had size = look_begun g.met.M.Medium.sound size (c.first_read.ensures _ _).0

pub invariant_of-result : goal.invariant_of-result
invariant_of-result g c = record { goes = can_look (c.first_read.ensures c.over.result no_step).1 }
