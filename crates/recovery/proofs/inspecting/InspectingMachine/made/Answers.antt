use Rattle.std.proofs.Common.{refl}
use Rattle.recovery.{specs.Starting.no_step, proofs.Looks.can_look}
use Rattle.recovery.proofs.inspecting.InspectingMachine.made.Goals as goal

pub invariant_of-self : goal.invariant_of-self
invariant_of-self g c = record { goes = can_look (c.behind_super-self.ensures c.args.self.now.survey no_step).1 }

pub invariant_of-self-in-ReadHead : goal.invariant_of-self-in-ReadHead
invariant_of-self-in-ReadHead g c = record {
  goes = can_look (c.behind_head-self.ensures.can _ no_step (c.args.self.now.goes.head _ c.in-ReadHead.is));
}

pub returns-in-Survey : goal.returns-in-Survey
returns-in-Survey g c = (refl, rw c.in-Survey.is (c.made.new.self, c.made.ensures, refl))
