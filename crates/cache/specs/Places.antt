-- Numbers that rise beside blocks in the same order, and the place of a number among them.
use Rattle.std.specs.Prelude.{◌≡◌, ◌⊎◌, ◌<◌, ◌≤◌, ℕ, ◌+◌, ◌-◌, ◌^◌, List, length, slice_index}
use Rattle.std.specs.List.{All, flat_map}
use Rattle.cache.specs.Blocks.{IsRising, absent}

-- blocks one after the other
abbrev pub joined : List (List ℕ) → List ℕ
joined blocks = flat_map (λ (block : List ℕ). block) blocks

-- a block of 512 bytes for each number, and the numbers rise
pub record ArePaired (numbers : List ℕ) (blocks : List (List ℕ)) : Type 0 where
  pub alike : length blocks ≡ length numbers
  pub sized : All (λ (block : List ℕ). length block ≡ 512) blocks
  pub rising : IsRising numbers

-- the number stands at this place
pub record StandsAt (numbers : List ℕ) (number place : ℕ) : Type 0 where
  pub inside : place < length numbers
  pub here : slice_index numbers place ≡ number
  pub before : (k : ℕ) → k < place → slice_index numbers k < number

-- the number is not there, and would stand at this place
pub record WouldStandAt (numbers : List ℕ) (number place : ℕ) : Type 0 where
  pub inside : place ≤ length numbers
  pub before : (k : ℕ) → k < place → slice_index numbers k < number
  pub past : (k : ℕ) → place ≤ k → k < length numbers → number < slice_index numbers k

-- the number stands at this place, or would stand there: the numbers before it are smaller, and the
-- one at it is not
pub record HasPlace (numbers : List ℕ) (number place : ℕ) : Type 0 where
  pub inside : place ≤ length numbers
  pub before : (k : ℕ) → k < place → slice_index numbers k < number
  pub here : place < length numbers → number ≤ slice_index numbers place

-- the same among numbers that rise
pub record IsPlaceAmong (numbers : List ℕ) (number place : ℕ) : Type 0 where
  pub rising : IsRising numbers
  pub has : HasPlace numbers number place

-- a range that ends at 2^31 or before, beside numbers that rise
pub record IsRangeAmong (numbers : List ℕ) (address count : ℕ) : Type 0 where
  pub rising : IsRising numbers
  pub small : address + count ≤ 2 ^ 31

-- there are as many numbers as `spare`, and they rise
pub record CanSkip (numbers : List ℕ) (spare : ℕ) : Type 0 where
  pub rising : IsRising numbers
  pub inside : spare ≤ length numbers

-- a number is read at its place, which is one step
pub record ReadsNumber (numbers : List ℕ) (at number old new : ℕ) : Type 0 where
  pub value : number ≡ slice_index numbers at
  pub step : new ≡ old + 1

-- Numbers at the front are skipped: `spare`, if that is not 0 and the last of them is smaller, in
-- one step, and else none.
pub record Skips (numbers : List ℕ) (spare number skipped old new : ℕ) : Type 0 where
  pub cases : (skipped ≡ spare) ⊎ ((skipped ≡ 0) × (number ≤ slice_index numbers (spare - 1)))
  pub before : (k : ℕ) → k < skipped → slice_index numbers k < number
  pub grows : old ≤ new
  pub few : new ≤ old + 1
  pub none : spare ≡ 0 → new ≡ old

-- a block of 512 bytes may be put at a number whose place is known: there is room for it
pub record CanPutBlock (numbers : List ℕ) (most number at : ℕ) (block : List ℕ) : Type 0 where
  pub place : HasPlace numbers number at
  pub size : length block ≡ 512
  pub room : length numbers + absent numbers number ≤ most
