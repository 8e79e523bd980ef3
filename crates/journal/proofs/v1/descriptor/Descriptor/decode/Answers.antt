use Rattle.std.proofs.Common.{arith}
use Rattle.journal.proofs.SectorNumbers.{descriptor_says, descriptor_numbers}
use Rattle.journal.proofs.v1.descriptor.Descriptor.decode.Goals as goal

pub returns-then-not-are_block_numbers-clause-all : goal.returns-then-not-are_block_numbers-clause-all
returns-then-not-are_block_numbers-clause-all c stamp numbers d =
    grind (arith, descriptor_numbers d c.number_at-count.ensures.is c.numbers_at-numbers.ensures, d.block_numbers)

pub returns-then-spells-clause-all : goal.returns-then-spells-clause-all
returns-then-spells-clause-all c stamp numbers d =
    grind (arith, descriptor_says d, descriptor_numbers d c.number_at-count.ensures.is c.numbers_at-numbers.ensures)

pub returns-else-spells-clause-all : goal.returns-else-spells-clause-all
returns-else-spells-clause-all c stamp numbers d =
    let same = descriptor_numbers d c.number_at-count.ensures.is c.numbers_at-numbers.ensures in
    grind (arith, descriptor_says d, same, c.spells.ensures, d)
