use Rattle.std.proofs.Common.{refl}
use Rattle.bot_machine.proofs.LifeRuns.{first_fits}
use Rattle.bot_machine.proofs.lives.Lives.new_by.Goals as goal

pub returns : goal.returns
returns c = record { value = refl; first = first_fits c.args.medium _ }
