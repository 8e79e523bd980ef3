-- Room for what is read.
use Rattle.std.specs.Prelude.{◌≡◌, ◌≢◌, ◌⊎◌, ℕ, ◌*◌, Bool, true, false, List, length}

-- Where no sector was read there is room for so many now, or no memory for them. Else it stays, and
-- wants none.
abbrev pub MakesRoom : ℕ → ℕ → List ℕ → List ℕ → Bool → Type 0
MakesRoom read until old new true =
    ((read ≡ 0) × (length new ≡ 512 * until)) ⊎ ((read ≢ 0) × (new ≡ old))
MakesRoom read until old new false = (read ≡ 0) × (new ≡ old)
