use Rattle.std.proofs.Common.{arith}
use Rattle.medium.proofs.Moments.{unchanged}
use Rattle.blocks.proofs.TurnsJoined.{rested_on}
use Rattle.blocks.proofs.store.Store.step_ahead.Goals as goal

pub returns : goal.returns
returns g c =
    let old = c.args.self.now in
    let passes = rested_on {Follows = g.M.Medium.follows} {most = 2} {sends = 2} old g.met.M.Medium.follows_itself g.met.M.Medium.sound in
    grind (arith, c.self.view_is, c.can_pass.ensures, c.is_away.ensures, c.requires.live, unchanged (g.M.Medium.state old.medium), passes)
