use Rattle.scsi_unit.proofs.CommandCalls.{calls_few}
use Rattle.scsi_unit.proofs.unit.Unit.command.Goals as goal

pub returns-clause-few : goal.returns-clause-few
returns-clause-few g c taken =
    let unit = c.args.self.now in
    let supported = rw (c.blocks-2.ensures.is, c.limit.ensures.is) at c.in_ok-command.ensures.supported in
    calls_few unit.store.cached c.medium.ensures.limits c.in_ok-command.command supported taken unit.write_cache
