use Rattle.std.proofs.Common.{◌∙◌, sym}
use Rattle.disk_machine.proofs.PacketRuns.{takes_run}
use Rattle.disk_machine.proofs.machine.DiskMachine.take_run.Goals as goal

pub returns-then-count-gt0 : goal.returns-then-count-gt0
returns-then-count-gt0 c =
    let run = c.bulk_out_run-count in
    rw c.lack_after-self.ensures
    (takes_run c.args.self.now c.args.bytes.now run.new.self run.result (sym c.is_pending.ensures ∙ c.if-is_pending.false) run.ensures
    c.if-count-gt0.true)
