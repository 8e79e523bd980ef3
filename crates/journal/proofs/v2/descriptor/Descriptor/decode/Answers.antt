use Rattle.std.proofs.Common.{◌≡◌, ◌∙◌, ◌+◌, ◌*◌, rules, arith, ◌-◌, min}
use Rattle.journal.proofs.SlotTwo.{header_says, numbers_are, firsts_are, sized_from, IsDescriptorTwo-one}
use Rattle.journal.proofs.v2.descriptor.Descriptor.decode.Goals as goal

pub returns-then-not-are_small-clause-all : goal.returns-then-not-are_small-clause-all
returns-then-not-are_small-clause-all c stamp count j numbers firsts d =
    let says = header_says d in
    let here : c.count_here-here.result ≡ min 30 (count - 30 * j) = cc (says.1, says.2) in
    grind (arith, numbers_are d here c.numbers_at-numbers.ensures, d.entries.small, d.entries.rising)

pub invariant_of-descriptor : goal.invariant_of-descriptor
invariant_of-descriptor c =
    let used = c.has_entries.ensures.0 (search rules) in
    let rising = rw c.deref-else-not-are_small.ensures.0 at (c.are_rising.ensures.0 (search rules)) in
    let small = rw c.deref.ensures.0 at (c.are_small.ensures.0 (search rules)) in
    let sized = sized_from c.args.sector.now (λ i. 40 + 16 * i)
    (λ i below. omega (arith, below, c.numbers_at-numbers.ensures.count, c.count_here-here.ensures)) c.firsts_at-firsts.ensures in
    search rules

pub returns-then-spells-clause-all : goal.returns-then-spells-clause-all
returns-then-spells-clause-all c stamp count j numbers firsts d =
    IsDescriptorTwo-one c.args.sector.now _ _ _ _ _ _ _ _ _ _ (c.spells.ensures.0 (search rules)) d

pub returns-else-spells-clause-all : goal.returns-else-spells-clause-all
returns-else-spells-clause-all c stamp count j numbers firsts d =
    let says = header_says d in
    let here : c.count_here-here.result ≡ min 30 (count - 30 * j) = cc (says.1, says.2) in
    let same = numbers_are d here c.numbers_at-numbers.ensures in
    let first = firsts_are d (c.numbers_at-numbers.ensures.count ∙ here) c.firsts_at-firsts.ensures in
    grind (arith, says, same, first, c.spells.ensures, d)
