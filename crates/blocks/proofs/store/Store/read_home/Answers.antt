use Rattle.std.proofs.{Common.{◌≡◌, ◌*◌, ◌/◌, ◌-◌, ◌+◌, length, ap, arith, refl}, lemmas.{List.take_all, Result.err_from_is_err_and}}
use Rattle.journal.specs.Places.{Shape, first_home}
use Rattle.blocks.proofs.ReadCalls.{home_at_once, none_at, reads_none, block_more, reads_refused}
use Rattle.blocks.proofs.store.Store.read_home.Goals as goal

pub read_at_home-requires-clause-home : goal.read_at_home-requires-clause-home
read_at_home-requires-clause-home g c = grind (arith, none_at, c.loop-i-test.true, c.requires.home, c.loop-i.invariant.keeps.stays)

pub loop-i-init : goal.loop-i-init
loop-i-init g c =
    let medium = c.self.inside.medium in
    rw (c.read_at_once.ensures.none c.if-read_at_once.false, ← c.self.view_is)
    (reads_none c.args.to.now (g.met.M.Medium.sound medium) (g.met.M.Medium.follows_itself medium))

-- the medium has all of them at hand
pub returns-then-read_at_once : goal.returns-then-read_at_once
returns-then-read_at_once g c =
    let readable = rw (← c.self.view_is) at c.requires.readable in
    let home = rw (← c.self.view_is) at c.requires.home in
    let is : c.home_of.result ≡ first_home c.self.inside.log.shape + c.args.address =
    omega (arith, c.home_of.ensures, ap (λ (s : Shape). first_home s) c.self.invariant.shape) in
    rw (← c.self.view_is) (home_at_once (g.met.M.Medium.sound c.self.inside.medium) readable home is c.if-read_at_once.ensures)

pub loop-i-preserved : goal.loop-i-preserved
loop-i-preserved g c = block_more g.met.M.Medium.follows_through c.loop-i.invariant c.loop-i.to (c.loop-i.i * 512)
    (c.loop-i.i * 512 + 512 - c.loop-i.i * 512) refl (omega arith) (omega arith) (omega (arith, c.loop-i-test.true, c.loop-i.auto.to))
    c.read_at_home.auto.to c.in_ok-read_at_home.ensures

pub returns-in_err-read_at_home : goal.returns-in_err-read_at_home
returns-in_err-read_at_home g c =
    let refused = err_from_is_err_and c.from_residual.result c.from_residual.ensures.1 in
    rw (refused.1, refused.2) (reads_refused g.met.M.Medium.follows_through c.loop-i.invariant (omega (arith, c.loop-i-test.true))
    c.in_err-read_at_home.ensures)

pub returns : goal.returns
returns g c =
    let all : c.loop-i.i ≡ length c.args.to.now / 512 = omega arith in
    let whole = take_all (512 * (length c.args.to.now / 512)) c.loop-i.to (omega (arith, c.loop-i.auto.to, c.requires.readable.size)) in
    rw (all, whole) at c.loop-i.invariant
