use Rattle.std.proofs.Common.{ap, arith}
use Rattle.journal.specs.Places.{Shape, first_home, sectors_of}
use Rattle.image_calls.proofs.OnWay.{cleared, BLANK}
use Rattle.image_calls.specs.declared.plan.Aim.TheVariants as aim
use Rattle.image_calls.proofs.part.home_part.Goals as goal

pub returns-clause-ok : goal.returns-clause-ok
returns-clause-ok g c aim.Laying shape first way = absurd way
returns-clause-ok g c aim.Format shape first (same, under) =
    let clears = c.clear.ensures.clears in
    let end = ap (λ (s : Shape). sectors_of s) same in (
      same,
      cleared shape BLANK (first_home shape) (sectors_of shape) c.args.plan.at c.in-Some.to (g.M.Medium.state first)
          (g.M.Medium.state c.args.m.now) (g.M.Medium.state c.clear.new.m) under (g.met.M.Medium.sound c.clear.new.m)
          (omega (arith, under.sizes.home_is.0)) (omega (arith, c.in-Some.ensures.0)) (omega (arith, c.in-Some.ensures.1, end))
          c.in_ok-clear.ensures.zeros clears.elsewhere clears.moments c.in_ok-clear.ensures.clears.exact
          c.clear.ensures.follows.looks.looked_stays,
    )
