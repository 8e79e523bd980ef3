use Rattle.std.proofs.{Common.{refl, ◌≡◌, ◌+◌, ◌<◌, ◌≤◌, length, ⊎_elim, arith}, lemmas.List.length-append}
use Rattle.journal.specs.{Format2.descriptors_of, Naming.IsBehindTwo, Formats.shape_of}
use Rattle.journal.proofs.SectorsRead.{unnamed, named_on, named_good, named_bad}
use Rattle.journal.proofs.reader.RecordReader.take_names.Goals as goal
use Rattle.journal.proofs.reader.RecordReader.take_names.Goals.{After-append}

pub returns-in_default : goal.returns-in_default
returns-in_default c =
    let s = c.args.self.now in
    let b = s.reads.behind_two _ _ c.requires in (
      refl,
      refl,
      record {
        knows = λ image reads had known.
            rw known.0 (unnamed s.sizes image s.stamp s.read b.two c.args.count c.args.index known.1 b.more
            (λ has. c.in_default.ensures has.0 has.1 (rw had has.2)));
        nearer = omega (arith, b.more, b.few);
      },
    )

pub append-requires : goal.append-requires
append-requires c =
    let b = c.args.self.now.reads.behind_two _ _ c.requires in
    let d = c.in-Some.ensures.entries in grind (arith, c.deref.ensures, c.deref-2.ensures)

-- how much was read with this descriptor
long : (c : After-append) → (0 < length c.append.new.self.numbers.items) × (length c.append.new.self.numbers.items ≤ 240)
    × (c.args.index + 1 < descriptors_of c.args.count
    → IsBehindTwo (shape_of c.args.self.now.sizes) c.args.count (c.args.index + 1) c.append.new.self)
long c =
    let b = c.args.self.now.reads.behind_two _ _ c.requires in
    let d = c.in-Some.ensures.entries in
    grind (arith, length-append, c.append.ensures, c.deref.ensures, c.deref-2.ensures, b, d)

pub invariant_of-self-then-index-descriptors : goal.invariant_of-self-then-index-descriptors
invariant_of-self-then-index-descriptors c =
    let all = long (goal.at.invariant_of-self-then-index-descriptors c).After-append in
    grind (arith, all, c.if-index-descriptors.true, c.descriptors.ensures)

pub invariant_of-self-else-index-descriptors : goal.invariant_of-self-else-index-descriptors
invariant_of-self-else-index-descriptors c =
    let b = c.args.self.now.reads.behind_two _ _ c.requires in
    let all = long (goal.at.invariant_of-self-else-index-descriptors c).After-append in
    let blocks = rw c.deref-else-index-descriptors.ensures.0 at c.are_blocks.ensures in
    grind (arith, all, b.two, blocks, c.named_if-self.ensures)

pub returns-then-index-descriptors : goal.returns-then-index-descriptors
returns-then-index-descriptors c =
    let s = c.args.self.now in
    let b = s.reads.behind_two _ _ c.requires in (
      refl,
      refl,
      record {
        knows = λ image reads had known. (
          omega (arith, known.0),
          named_on s.sizes image s.stamp s.read b.two c.args.count c.args.index known.1 b.more (rw had at c.in-Some.ensures)
              c.append.new.self (rw c.deref.ensures.0 at c.append.ensures.numbers) (rw c.deref-2.ensures.0 at c.append.ensures.firsts),
        );
        nearer = omega (arith, b.more, b.few);
      },
    )

pub returns-else-index-descriptors : goal.returns-else-index-descriptors
returns-else-index-descriptors c =
    let s = c.args.self.now in
    let b = s.reads.behind_two _ _ c.requires in
    let last : c.args.index + 1 ≡ descriptors_of c.args.count =
    omega (arith, c.if-index-descriptors.false, c.descriptors.ensures, b.more) in
    let blocks = rw c.deref-else-index-descriptors.ensures.0 at c.are_blocks.ensures in (
      refl,
      refl,
      record {
        knows = λ image reads had known.
            let is = named_on s.sizes image s.stamp s.read b.two c.args.count c.args.index known.1 b.more (rw had at c.in-Some.ensures)
            c.append.new.self (rw c.deref.ensures.0 at c.append.ensures.numbers) (rw c.deref-2.ensures.0 at c.append.ensures.firsts) in
            let all : reads + 1 ≡ 1 + descriptors_of c.args.count = omega (arith, known.0, last) in
            ⊎_elim (λ yes. let both = blocks.0 yes.1 in
            rw (yes.0, all) (named_good s.sizes image s.stamp c.append.new.self b.two c.args.count (c.args.index + 1) is last both.0
            both.1)) (λ no.
            rw (no.0, all) (named_bad s.sizes image s.stamp c.append.new.self b.two c.args.count (c.args.index + 1) is last
            (λ both. no.1 (blocks.1 both)))) c.named_if-self.ensures;
        nearer = grind (arith, b, c.named_if-self.ensures);
      },
    )
