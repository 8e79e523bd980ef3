use Rattle.std.proofs.Common.{rules}
use Rattle.medium.proofs.Moments.{unchanged}
use Rattle.window.specs.Window.{state_of}
use Rattle.window.proofs.window.WindowMediumInlet.show.Goals as goal

pub returns-clause-unchanged : goal.returns-clause-unchanged
returns-clause-unchanged c = search (rules, unchanged (state_of c.args.self.now))
