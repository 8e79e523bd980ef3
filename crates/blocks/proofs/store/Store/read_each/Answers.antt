use Rattle.std.proofs.{Common.{◌≡◌, ◌*◌, ◌-◌, ◌+◌, arith, refl}, lemmas.{List.take_all, Result.err_from_is_err_and}}
use Rattle.blocks.proofs.ReadCalls.{reads_none, block_more, reads_refused}
use Rattle.blocks.proofs.store.Store.read_each.Goals as goal

pub loop-i-init : goal.loop-i-init
loop-i-init g c = record {
  read = reads_none c.args.to.now (g.met.M.Medium.sound c.args.self.now.medium) (g.met.M.Medium.follows_itself c.args.self.now.medium);
  active = grind (arith, c.lower_bound-active.ensures);
  frozen = grind (arith, c.lower_bound-frozen.ensures);
}

pub loop-i-preserved : goal.loop-i-preserved
loop-i-preserved g c =
    let so_far = c.loop-i.invariant.read in
    let read = block_more g.met.M.Medium.follows_through so_far c.loop-i.to (c.loop-i.i * 512)
    (c.loop-i.i * 512 + 512 - c.loop-i.i * 512) refl (omega arith) (omega arith) (omega (arith, c.loop-i-test.true, c.loop-i.auto.to))
    c.read_block.auto.to c.in_ok-read_block.ensures.reads in
    grind (arith, so_far.keeps.stays, read, c.read_block.ensures.next)

pub returns-in_err-read_block : goal.returns-in_err-read_block
returns-in_err-read_block g c =
    let refused = err_from_is_err_and c.from_residual.result c.from_residual.ensures.1 in
    rw (refused.1, refused.2) (reads_refused g.met.M.Medium.follows_through c.loop-i.invariant.read (omega (arith, c.loop-i-test.true))
    c.in_err-read_block.ensures.reads)

pub returns : goal.returns
returns g c =
    let all : c.loop-i.i ≡ c.args.count = omega arith in
    let whole = take_all (512 * c.args.count) c.loop-i.to (omega (arith, c.loop-i.auto.to, c.requires.size)) in
    rw (all, whole) at c.loop-i.invariant.read
