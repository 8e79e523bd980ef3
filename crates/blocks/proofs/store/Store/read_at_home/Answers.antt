use Rattle.std.proofs.{Common.{◌≡◌, ◌+◌, ◌∙◌, ◌<◌, ap, arith, inl}, lemmas.Result.on_ok_weaker}
use Rattle.journal.specs.Places.{Shape, first_home}
use Rattle.redo_log.proofs.StoreFacts.{home_is}
use Rattle.blocks.proofs.ReadCalls.{home_keeps, reads_one, unlogged_reads}
use Rattle.blocks.proofs.store.Store.read_at_home.Goals as goal

pub returns : goal.returns
returns g c =
    let read = c.read.ensures in
    let readable = rw (← c.self.view_is) at c.requires.readable in
    let home = rw (← c.self.view_is) at c.requires.home in
    let is : c.home_of.result ≡ first_home c.self.inside.log.shape + c.args.block =
    omega (arith, c.home_of.ensures, ap (λ (s : Shape). first_home s) c.self.invariant.shape) in
    let below : c.args.block < c.self.inside.log.shape.blocks = omega (arith, readable.inside) in
    let calls = unlogged_reads c.self.inside.log c.args.block home.log in
    rw (← c.self.view_is, c.told.ensures) (reads_one c.read.result (inl (read.passes, calls)) below home.none
    (home_keeps (g.met.M.Medium.sound c.self.inside.medium) c.home_of.result is read.passes read.content read.sets read.follows)
    (λ book fits. on_ok_weaker c.read.result (λ got. got
    ∙ home_is _ _ fits.view fits.holds readable.live c.args.block below home.log) (rw is at read.ok)))
