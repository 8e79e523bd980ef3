use Rattle.std.proofs.Common.{◌≡◌, ◌∙◌, ◌/◌, length, ap, sym, arith, false}
use Rattle.journal.specs.Places.{Shape}
use Rattle.theorems.proofs.LogRuns.{run_none}
use Rattle.blocks.{specs.{Reads.AreReadable, StoreValue.is_dead}, proofs.ReadCalls.{keeps_none, read_beside}}
use Rattle.blocks.proofs.store.Store.read.Goals.{Else-is_dead}
use Rattle.blocks.proofs.store.Store.read.Goals as goal

-- the blocks can be read
readable : (g : _) (c : Else-is_dead g)
    → AreReadable c.args.self.now.cached c.args.address (length c.args.to.now / 512) (length c.args.to.now)
readable g c =
    let same = ap (λ v. v.cached.log.shape.blocks) c.self.view_is in
    let small = ap (λ (s : Shape). s.blocks) c.self.invariant.shape in
    grind (arith, same, small, c.self.inside.sizes.most_blocks, c.requires, c.is_dead.ensures, c.if-is_dead.false, c.self.view_is)

pub are_at_home-requires : goal.are_at_home-requires
are_at_home-requires g c = (readable g (goal.at.are_at_home-requires g c).Else-is_dead).small

pub read_home-requires-clause-readable : goal.read_home-requires-clause-readable
read_home-requires-clause-readable g c = readable g (goal.at.read_home-requires-clause-readable g c).Else-is_dead

pub read_each-requires : goal.read_each-requires
read_each-requires g c = readable g (goal.at.read_each-requires g c).Else-is_dead

pub returns-then-is_dead-clause-keeps : goal.returns-then-is_dead-clause-keeps
returns-then-is_dead-clause-keeps g c = record {
  keeps = keeps_none (g.met.M.Medium.sound c.args.self.now.medium) (g.met.M.Medium.follows_itself c.args.self.now.medium);
  runs = run_none;
}

live : (g : _) (c : Else-is_dead g) → is_dead c.args.self.now.cached ≡ false
live g c = rw (← c.self.view_is) (sym c.is_dead.ensures ∙ c.if-is_dead.false)

pub returns-then-are_at_home-clause-keeps : goal.returns-then-are_at_home-clause-keeps
returns-then-are_at_home-clause-keeps g c =
    let reads = c.read_home.ensures in
    read_beside (live g (goal.at.returns-then-are_at_home-clause-keeps g c).Else-is_dead) reads.keeps reads.cost

pub returns-clause-keeps : goal.returns-clause-keeps
returns-clause-keeps g c =
    let reads = c.read_each.ensures in
    read_beside (live g (goal.at.returns-clause-keeps g c).Else-is_dead) reads.keeps reads.cost
