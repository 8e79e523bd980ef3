use Rattle.scsi_unit.proofs.PerformedCommands.{serves}
use Rattle.scsi_unit.proofs.unit.Unit.carry_out.Goals as goal

pub returns-clause-serves : goal.returns-clause-serves
returns-clause-serves g c =
    let done = c.perform_block-answer.ensures in
    rw (c.settle.ensures c.perform_block-answer.new.out) (serves done.performs done.spares.policy)
