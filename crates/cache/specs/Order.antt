-- Blocks in the order of their arrival, and the place of each number's block in the row.
use Rattle.std.specs.Prelude.{◌≡◌, ◌≢◌, ◌<◌, ◌≤◌, ℕ, suc, ◌+◌, List, [], ◌∷◌, length, map}
use Rattle.std.specs.Prelude.{slice_index, slice_index_or, if◌then◌else◌, ◌==◌}

-- the blocks at these places of the row, in the order of the places
abbrev pub gathered : List ℕ → List (List ℕ) → List (List ℕ)
gathered places row = map (λ (p : ℕ). slice_index_or row p []) places

-- count elements were written from a place on, and those before it stay
pub record IsWrittenFrom {X : Type 0} (old new : List X) (from count : ℕ) (each : ℕ → X) (none : X)
    : Type 0 where
  pub written : (i : ℕ) → i < count → slice_index_or new (from + i) none ≡ each i
  pub before : (k : ℕ) → k < from → slice_index_or new k none ≡ slice_index_or old k none

-- the places are those from 0 on, each of them once, in any order
pub record ArePlaces (places : List ℕ) : Type 0 where
  pub inside : (i : ℕ) → i < length places → slice_index places i < length places
  pub distinct : (i j : ℕ) → i < length places → j < length places
      → slice_index places i ≡ slice_index places j → i ≡ j

-- the places are those of blocks of this row
pub record ArePlacesOf (row : List (List ℕ)) (places : List ℕ) : Type 0 where
  pub are : ArePlaces places
  pub room : length places ≤ length row

-- of the places of blocks of this row there is an i-th, and it is not its own
pub record IsAstray (i : ℕ) (row : List (List ℕ)) (places : List ℕ) : Type 0 where
  pub places_of : ArePlacesOf row places
  pub inside : i < length places
  pub astray : slice_index places i ≢ i

-- the i-th place is its own now, and so is each one that was
pub record IsOwnAt (i : ℕ) (old new : List ℕ) : Type 0 where
  pub places : ArePlaces new
  pub own : slice_index new i ≡ i
  pub settled_stay : (k : ℕ) → k < length old → slice_index old k ≡ k → slice_index new k ≡ k

-- each place is its own: the places are 0, 1, 2 and so on
abbrev pub AreInOrder : List ℕ → Type 0
AreInOrder places = (i : ℕ) → i < length places → slice_index places i ≡ i

-- 1 where a place is not the i-th
abbrev pub away : ℕ → ℕ → ℕ
away i place = if place == i then 0 else 1

-- how many of the places, the first of which is to be the i-th, are not their own
abbrev pub astray : ℕ → List ℕ → ℕ
astray i [] = 0
astray i (place ∷ places) = away i place + astray (suc i) places
