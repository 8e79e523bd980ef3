-- The super with which the first sectors of a device begin, and what is shown by it.
use Rattle.std.specs.Prelude.{◌≡◌, ℕ, ◌≤◌, List, length, Option, Some, None, min}
use Rattle.medium.specs.{Writes.sector_of}
use Rattle.journal.specs.{Formats.shape_of, Places.{Shape, slot_sectors_of}, Sectors.IsSuper}
use Rattle.journal.specs.{declared.log_format.LogFormat.LogFormat}
use Rattle.journal.specs.{declared.super_sector.Super.Super}

-- the first sectors begin with the super of an image of this shape
abbrev pub IsSuperOf : List ℕ → Shape → Type 0
IsSuperOf near shape = (512 ≤ length near) × IsSuper shape (sector_of near 0)

abbrev pub HasSuper : List ℕ → Type 0
HasSuper near = (shape : Shape) × IsSuperOf near shape

-- and with that of no other
pub record IsTheSuper (near : List ℕ) (shape : Shape) : Type 0 where
  pub is : IsSuperOf near shape
  pub only : (other : Shape) → IsSuperOf near other → other ≡ shape

-- the super with which they begin is found, if they do
abbrev pub FindsSuper : List ℕ → Option Super → Type 0
FindsSuper near (Some sizes) = IsTheSuper near (shape_of sizes)
FindsSuper near None = ¬ HasSuper near

-- how many sectors are shown at a time at most: those of a slot, which a start is shown, as far as
-- one call of the device reads them, and so those of a read
abbrev pub span_of : LogFormat → ℕ
span_of format = min (slot_sectors_of format) 240
