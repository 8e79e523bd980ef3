use Rattle.std.proofs.{Common.{◌≡◌, false, true, sym, ◌∙◌, arith}, lemmas.Bool.Decides.nat_tests}
use Rattle.medium.proofs.Moments.{unchanged}
use Rattle.blocks.{specs.StoreValue.is_dead, proofs.TurnsJoined.{kept_then, rested_on}}
use Rattle.blocks.proofs.store.Store.work_ahead.Goals as goal

pub returns-then-not-self : goal.returns-then-not-self
returns-then-not-self g c =
    let old = c.args.self.now in
    let passes = rested_on {Follows = g.M.Medium.follows} {most = 2} {sends = 2} old g.met.M.Medium.follows_itself g.met.M.Medium.sound in
    grind (arith, unchanged (g.M.Medium.state old.medium), c.then-not-self.branch, c.self.view_is, passes)

pub returns : goal.returns
returns g c =
    let old = c.args.self.now in
    let live : is_dead old.cached ≡ false = sym c.is_dead.ensures ∙ c.if-is_dead.false in
    let on : old.goes_ahead ≡ true = rw (← c.self.view_is) c.if-not-self.false in
    let idle = c.is_writing.ensures.rests live c.if-is_writing.false in
    let is = c.count_flush.ensures.is in
    let goes = rw is at c.step_ahead.ensures.goes in
    let passes = kept_then c.count_flush.ensures.keeps c.step_ahead.ensures.passes in
    grind (arith, nat_tests, live, on, goes, idle, passes, c.step_ahead.ensures, c.count_flush.ensures.fewer, is)
