use Rattle.std.proofs.Common.{◌+◌, ◌≤◌, refl, arith}
use Rattle.journal.specs.{Formats.shape_of, Record.home_of, Places.{first_home, sectors_of}}
use Rattle.image_calls.proofs.{OnWay.{begun, sized, BLANK}}
use Rattle.image_calls.proofs.part.begin.Goals as goal

pub returns-in-Format-clause-ok : goal.returns-in-Format-clause-ok
returns-in-Format-clause-ok g c =
    let s = c.args.sizes.now in
    let shape = shape_of s in
    let old = g.M.Medium.state c.args.m.now in
    let wrote = c.write_through.ensures.writes in
    let done = c.in_ok-write_through.ensures in
    let fits : s.home + s.blocks ≤ old.size = omega (arith, c.sectors.ensures, c.sectors-2.ensures, c.if-sectors.false) in
    rw c.in-Format.is (
      (
        refl,
        begun shape BLANK (first_home shape) (sectors_of shape) old (g.M.Medium.state c.write_through.new.m) (sized s old.size fits)
            (omega (arith, s.home_is.0)) (g.met.M.Medium.sound c.write_through.new.m) done.done.0 done.done.1 wrote.elsewhere
            wrote.moments done.writes.exact c.write_through.ensures.follows.looks.looked_stays,
      ),
      done.writes.exact,
    )

pub returns-in-Laying-clause-ok : goal.returns-in-Laying-clause-ok
returns-in-Laying-clause-ok g c =
    let s = c.args.sizes.now in
    let shape = shape_of s in
    let old = g.M.Medium.state c.args.m.now in
    let wrote = c.write_through.ensures.writes in
    let done = c.in_ok-write_through.ensures in
    let fits : s.home + s.blocks ≤ old.size = omega (arith, c.sectors.ensures, c.sectors-2.ensures, c.if-sectors.false) in
    rw c.in-Laying.is (
      (
        refl,
        begun shape (home_of shape old.content) 1 (first_home shape) old (g.M.Medium.state c.write_through.new.m) (sized s old.size fits)
            (omega (arith, s.home_is.0)) (g.met.M.Medium.sound c.write_through.new.m) done.done.0 done.done.1 wrote.elsewhere
            wrote.moments done.writes.exact c.write_through.ensures.follows.looks.looked_stays,
      ),
      done.writes.exact,
    )
