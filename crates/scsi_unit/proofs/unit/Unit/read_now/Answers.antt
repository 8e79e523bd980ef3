use Rattle.scsi_unit.proofs.PendingReads.{reads_now}
use Rattle.scsi_unit.proofs.unit.Unit.read_now.Goals as goal

pub returns : goal.returns
returns g c taken can =
    rw (c.end.ensures.kept c.read_blocks-answer.new.out, c.end.ensures.told)
    (reads_now c.args.self.now c.read_blocks-answer.new.store c.args.command.now taken c.read_blocks-answer.new.out c.requires.can.live
    can c.read_blocks-answer.result (rw c.transfer_of.ensures at c.read_blocks-answer.ensures))
