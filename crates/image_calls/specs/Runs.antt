-- The sectors of a device that were read last.
use Rattle.std.specs.Prelude.{◌≡◌, ◌⊎◌, ◌+◌, ◌-◌, ◌/◌, ◌<◌, ◌≤◌, ℕ, Bool, true, false, List, ◌++◌}
use Rattle.std.specs.Prelude.{length, drop, min}
use Rattle.medium.specs.{Medium.Image, Writes.sector_of, Inlet.AreHeld}
use Rattle.image_calls.specs.{declared.run.Run.Run}

-- it holds this sector
abbrev pub IsHeld : Run → ℕ → Type 0
IsHeld run sector = (run.first ≤ sector) × (sector < run.first + run.held)

-- with these bytes
abbrev pub held_at : Run → ℕ → List ℕ
held_at run sector = sector_of run.sectors.bytes.items (sector - run.first)

-- each sector that it holds is what the image has there
abbrev pub HoldsOf : Run → Image → Type 0
HoldsOf run image = AreHeld image run.first run.held run.sectors.bytes.items

-- a sector is copied out, where it is held
abbrev pub LoadsHeld : Run → ℕ → List ℕ → Bool → List ℕ → Type 0
LoadsHeld run sector old true new = IsHeld run sector × (new ≡ held_at run sector)
LoadsHeld run sector old false new = (¬ IsHeld run sector) × (new ≡ old)

-- It holds these sectors from the first on, and no other.
pub record HoldsRead (first : ℕ) (bytes : List ℕ) (old new : Run) : Type 0 where
  pub first_is : new.first ≡ first
  pub held_is : new.held ≡ length bytes / 512
  pub bytes_are : new.sectors.bytes.items
      ≡ bytes ++ drop (length bytes) old.sectors.bytes.items

-- it holds none from this sector on
pub record LetsGo (sector : ℕ) (old new : Run) : Type 0 where
  pub bytes_stay : new.sectors ≡ old.sectors
  pub first_stays : new.first ≡ old.first
  pub held_is : ((sector < old.first) × (new.held ≡ old.held))
      ⊎ ((old.first ≤ sector) × (new.held ≡ min old.held (sector - old.first)))
