use Rattle.std.proofs.Common.{refl, arith, rules}
use Rattle.blocks.proofs.ReadCalls.{copy_keeps, keeps_none, newest_is, reads_newest, reads_one, copied, logged_newest}
use Rattle.blocks.proofs.store.Store.read_block.Goals as goal

-- a batch has it
pub returns-in-Some : goal.returns-in-Some
returns-in-Some g c =
    let s = c.args.self.now.cached in
    let m = g.M.Medium.state c.args.self.now.medium in
    let held = c.in-Some.ensures.some in
    let none = reads_newest s c.args.block c.in-Some.bytes.now held in
    let newest = newest_is m s c.args.block c.in-Some.bytes.now (omega (arith, c.requires.readable.inside)) held in
    let old = c.args.self.now in
    let keeps = keeps_none {state = g.M.Medium.state} {Follows = g.M.Medium.follows} {address = c.args.block} {old = old} {count = 1}
    (g.met.M.Medium.sound c.args.self.now.medium) (g.met.M.Medium.follows_itself c.args.self.now.medium) in
    search (rules, arith, none, newest, keeps)

-- its copy in the log is read, or that is refused
pub returns : goal.returns
returns g c =
    let readable = rw (← c.self.view_is) at c.requires.readable in
    let none = rw (← c.self.view_is) at (c.in_default.ensures.none refl) in
    let copy = c.read_copy.ensures in
    record {
      reads = rw (← c.self.view_is, c.told.ensures) (reads_one c.read_copy.result
          (copied g.M.Medium.state c.self.inside.log c.args.block copy.passes (search (rules, logged_newest)))
          (omega (arith, readable.inside)) none (copy_keeps (g.met.M.Medium.sound c.self.inside.medium) copy.keeps)
          (λ book fits. copy.ok fits.view c.args.block fits.holds (search rules)));
      next = c.in_default.ensures.next;
    }

pub read_at_home-requires-clause-home : goal.read_at_home-requires-clause-home
read_at_home-requires-clause-home g c =
    record { none = c.in_default.ensures.none refl; log = rw (← c.self.view_is) c.in_default-find.ensures }
