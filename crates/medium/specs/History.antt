-- A medium in memory that remembers what it was at each moment.
use Rattle.std.specs.Prelude.{◌⊎◌, ℕ, ◌≤◌, List, [], ◌∷◌, length}
use Rattle.medium.specs.Medium.{State, Image, CutLeaves}
use Rattle.medium.specs.Sim as sim
use Rattle.medium.specs.Sim.{Sim, sets_of}

pub record Remembered : Type 0 where
  pub now : Sim
  -- what it was before each call, the latest first
  pub earlier : List Sim

-- A cut at one of these moments, the latest first, could have left this image. Only those from t on
-- count, where the number of a moment is how many there were before it.
abbrev pub LeftEarlier : ℕ → List Sim → Image → Type 0
LeftEarlier t [] image = ⊥
LeftEarlier t (m ∷ before) image =
    ((t ≤ length before) × CutLeaves (sets_of m) image) ⊎ LeftEarlier t before image

-- the medium had P at each of these moments from t on
abbrev pub EachMoment : (Sim → Type 0) → ℕ → List Sim → Type 0
EachMoment P t [] = Unit {0}
EachMoment P t (m ∷ before) = (t ≤ length before → P m) × EachMoment P t before

-- an image is left since t where a cut now may leave it, or a cut at an earlier moment could
abbrev pub state_of : Remembered → State
state_of m = record (sim.state_of m.now) {
  left_since = λ t image. CutLeaves (sets_of m.now) image ⊎ LeftEarlier t m.earlier image;
  calls = length m.earlier;
}

-- The second comes after the first, by calls of a medium alone: what could have been left is not
-- forgotten.
pub record ComesAfter (old new : Remembered) : Type 0 where
  pub medium : sim.ComesAfter old.now new.now
  pub later : length old.earlier ≤ length new.earlier
  pub remembers : (t : ℕ) (image : Image) → t ≤ length old.earlier
      → (state_of old).left_since t image → (state_of new).left_since t image
