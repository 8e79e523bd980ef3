use Rattle.medium.specs.Writes.{keeps}
use Rattle.bot_machine.proofs.LifeActions.{is_cut}
use Rattle.bot_machine.proofs.lives.disk_state.cut.Goals as goal

pub returns-clause-goes_on : goal.returns-clause-goes_on
returns-clause-goes_on c = λ device.
    let same = c.into_medium-medium.ensures in
    is_cut device (keeps c.args.kept.now) c.args.state c.cut.new.self (rw same at c.cut.ensures.cut) (rw same at c.cut.ensures.allowed)
    c.cut.ensures.flushed (rw same at c.cut.ensures.size)
