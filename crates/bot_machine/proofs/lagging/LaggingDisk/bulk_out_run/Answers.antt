use Rattle.bot_machine.proofs.LaggingRuns.{awaits_taken, takes_on}
use Rattle.bot_machine.proofs.lagging.LaggingDisk.bulk_out_run.Goals as goal

pub invariant_of-self : goal.invariant_of-self
invariant_of-self g c =
    let d = c.self.inside in
    awaits_taken d.disk d.pending c.self.invariant c.args.bytes.now c.bulk_out_run.new.self c.bulk_out_run.result c.bulk_out_run.ensures

pub returns : goal.returns
returns g c =
    let d = c.self.inside in
    rw (← c.self.view_is)
    (takes_on g.met.M.Medium.sound d.disk d.pending c.self.invariant c.args.bytes.now c.bulk_out_run.new.self c.bulk_out_run.result
    c.bulk_out_run.ensures)
