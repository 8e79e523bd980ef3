-- What reads of a file gave.
use Rattle.std.specs.Prelude.{◌≡◌, ◌+◌, ◌/◌, ◌<◌, ℕ, zero, suc, List, [], ◌∷◌, ◌++◌, length, drop}
use Rattle.medium.specs.Writes.{sector_of}

-- A read gave each whole sector of these bytes, of the sectors from this one on.
abbrev pub AreRead : (ℕ → List ℕ → Type 0) → ℕ → List ℕ → Type 0
AreRead holds first bytes =
    (s : ℕ) → s < length bytes / 512 → holds (first + s) (sector_of bytes s)

-- A read gave each of these blocks, of neighbouring sectors from this one on.
abbrev pub AreReadFrom : (ℕ → List ℕ → Type 0) → ℕ → List (List ℕ) → Type 0
AreReadFrom holds first [] = Unit {0}
AreReadFrom holds first (block ∷ blocks) =
    holds first block × AreReadFrom holds (first + 1) blocks

-- a given number of first sectors of these bytes
abbrev pub sectors_in : ℕ → List ℕ → List (List ℕ)
sectors_in zero bytes = []
sectors_in (suc count) bytes = sectors_in count bytes ++ sector_of bytes count ∷ []

-- One read of a file from its first sector on gave all of these bytes but those of sector 0, which
-- are these.
pub record AreReadBehind (gave : ℕ → List ℕ → Type 0) (sector bytes : List ℕ) : Type 0 where
  pub whole : List ℕ
  pub read : gave 0 whole
  pub are : bytes ≡ sector ++ drop 512 whole

-- One read gave sector 0 alone, and one more the others of these first sectors.
pub record AreReadByTwo (gave : ℕ → List ℕ → Type 0) (bytes : List ℕ) : Type 0 where
  pub sector : List ℕ
  pub first : gave 0 sector
  pub others : AreReadBehind gave sector bytes
