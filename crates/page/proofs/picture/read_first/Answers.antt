use Rattle.std.proofs.Common.{ℕ, ◌∙◌, ap, arith}
use Rattle.logical_blocks.specs.Book.{array_of, blocks_at}
use Rattle.page.proofs.picture.read_first.Goals as goal

pub read-requires : goal.read-requires
read-requires c = record {
  some = omega (arith, c.requires.count.0, c.requires.room);
  most = omega (arith, c.requires.count.1, c.requires.room, c.limit.ensures.is, c.limit.ensures.least);
  whole = omega (arith, c.requires.room);
  inside = omega (arith, c.requires.inside, c.requires.room);
}

pub returns-in-Ok : goal.returns-in-Ok
returns-in-Ok c = λ book fits yes.
    c.in-Ok.ensures.ok book fits ∙ ap (λ (n : ℕ). blocks_at (array_of book) 0 n) (omega (arith, c.requires.room))
