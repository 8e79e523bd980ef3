use Rattle.scsi_unit.proofs.UnitTurns.{ticks_over}
use Rattle.scsi_unit.proofs.unit.Unit.work.Goals as goal

pub returns : goal.returns
returns g c = record {
  ticks = ticks_over c.args.work _ _ c.args.self.now c.step.new.store c.step.ensures;
  follows = c.step.ensures.follows.comes;
}
