-- How many sectors are read in all, as more of them are.
use Rattle.std.proofs.{Common.{◌≡◌, ℕ, ◌≤◌, min, List, [], ◌∷◌, ◌++◌, length, sym, subst, arith}, lemmas.List.take-append-le}
use Rattle.medium.specs.{Writes.sector_of}
use Rattle.image_calls.specs.{Near.IsNear, Reading.IsUntil, declared.reach.Reach.Reach}
use Rattle.image_calls.specs.declared.reach.Reach.TheVariants as reach

-- the first sector stays
first_stays : (near bytes : List ℕ) → 512 ≤ length near → sector_of (near ++ bytes) 0 ≡ sector_of near 0
first_stays near bytes le = take-append-le 512 near bytes le

-- where a sector was read, no further one tells anything
pub goes_on : (r : Reach) (sectors : ℕ) (near bytes : List ℕ) (until : ℕ) → 512 ≤ length near → IsUntil r sectors near until
    → IsUntil r sectors (near ++ bytes) until
goes_on reach.First sectors near bytes until some is = is
goes_on reach.Near sectors [] bytes until some is = absurd (omega (arith, some))
goes_on reach.Near sectors (b ∷ near) bytes until some is =
    (is.0, subst (λ (sector : List ℕ). IsNear sector is.0) (sym (first_stays (b ∷ near) bytes some)) is.1, is.2)

-- the first one tells how many they are
pub tells : (sectors : ℕ) (near bytes : List ℕ) (count until : ℕ) → length near ≡ 0 → 512 ≤ length bytes
    → IsNear (sector_of bytes 0) count → until ≡ min count sectors → IsUntil reach.Near sectors (near ++ bytes) until
tells sectors [] [] count until none some is same = absurd (omega (arith, some))
tells sectors [] (b ∷ bytes) count until none some is same = (count, is, same)
tells sectors (n ∷ near) bytes count until none some is same = absurd (omega (arith, none))
