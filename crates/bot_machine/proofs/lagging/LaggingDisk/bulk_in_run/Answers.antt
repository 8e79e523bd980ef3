use Rattle.bot_machine.proofs.LaggingRuns.{gives_on}
use Rattle.bot_machine.proofs.lagging.LaggingDisk.bulk_in_run.Goals as goal

pub returns : goal.returns
returns g c =
    let d = c.self.inside in
    rw (← c.self.view_is)
    (gives_on g.met.M.Medium.sound d.disk d.pending c.self.invariant c.args.room.now c.bulk_in_run.new.self c.bulk_in_run.new.room
    c.bulk_in_run.result c.bulk_in_run.ensures)
