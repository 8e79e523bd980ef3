-- Each sector that a call of a store reads is one of the log, or for a READ the home of one of its blocks.
use Rattle.std.proofs.Common.{◌≡◌, ◌≤◌, ◌+◌, ℕ, arith, subst}
use Rattle.medium.{specs.Medium.State, proofs.SectorsRead.{no_looks, looks_joined, looks_wider}}
use Rattle.blocks.specs.{Turns.GoesOn, Looks.{LooksAtLog, LooksAtBlocks}, StoreValue.Cached}

-- no read was made
pub none : (before after : State) (s : Cached) → after.looked ≡ before.looked → LooksAtLog before after s
none before after s same = no_looks _ before after same

-- calls of one store, and then of the store that it became
pub looks_on : (before mid after : State) (old half : Cached) → GoesOn before mid old half → LooksAtLog before mid old
    → LooksAtLog mid after half → LooksAtLog before after old
looks_on before mid after old half on first last = grind (arith, looks_joined, looks_wider)

-- none of a READ
pub none_read : (before after : State) (s : Cached) (address count : ℕ) → after.looked ≡ before.looked
    → LooksAtBlocks before after s address count
none_read before after s address count same = no_looks _ before after same

-- the blocks before it were read, and it was
pub one_more : (before mid after : State) (old half : Cached) (address i : ℕ) → half ≡ old → LooksAtBlocks before mid old address i
    → LooksAtBlocks mid after half (address + i) 1 → LooksAtBlocks before after old address (i + 1)
one_more before mid after old half address i same first last =
    let here = subst (λ (s : Cached). LooksAtBlocks mid after s (address + i) 1) same last in
    looks_joined _ before mid after (looks_wider _ _ before mid (λ x named. grind (arith, named)) first)
    (looks_wider _ _ mid after (λ x named. grind (arith, named)) here)

-- what looks at few blocks at most looks at many at most
pub fewer_read : (before after : State) (s : Cached) (address few many : ℕ) → few ≤ many → LooksAtBlocks before after s address few
    → LooksAtBlocks before after s address many
fewer_read before after s address few many le looks = looks_wider _ _ before after (λ x named. grind (arith, named, le)) looks
