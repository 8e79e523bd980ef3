use Rattle.bot_machine.proofs.LifeActions.{event_at_rest}
use Rattle.bot_machine.proofs.lives.disk_state.play.Goals as goal

pub returns-in-Stopped-clause-goes_on : goal.returns-in-Stopped-clause-goes_on
returns-in-Stopped-clause-goes_on c = λ device.
    rw c.in-Stopped.is (event_at_rest device c.in-Stopped.field-0 c.args.event.now (rw c.in-Stopped.is at c.requires.started))
