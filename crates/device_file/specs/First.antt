-- The first sectors of a file.
use Rattle.std.specs.Prelude.{◌≡◌, ◌⊎◌, ◌<◌, ◌≤◌, ℕ, List, Option, Some, None}
use Rattle.journal.specs.Places.{Shape}
use Rattle.journal.specs.Sectors.{IsSuper}
use Rattle.journal.specs.Formats.{shape_of}
use Rattle.journal.specs.declared.super_sector.Super.{Super}
use Rattle.device_file.specs.declared.fault.FileCall.TheVariants as call
use Rattle.device_file.specs.declared.opening.OpenFault.{OpenFault}
use Rattle.device_file.specs.declared.opening.OpenFault.TheVariants as fault

-- how many first sectors are to lie in memory: all before the first home sector, and two where
-- there is no super
abbrev pub near_of : Option Super → ℕ
near_of (Some sizes) = sizes.home
near_of None = 2

-- the super that a sector spells, where it spells one
abbrev pub SpellsSuper : Option Super → List ℕ → Type 0
SpellsSuper (Some sizes) sector = IsSuper (shape_of sizes) sector
SpellsSuper None sector = (shape : Shape) → ¬ IsSuper shape sector

-- why they were not had: there is no sector, a read of some of them was refused, or there was no
-- memory
abbrev pub IsUnopened : (ℕ → ℕ → Type 0) → ℕ → OpenFault → Type 0
IsUnopened refuses size (fault.File why) = ((why.call ≡ call.Length) × (size ≡ 0))
    ⊎ ((why.call ≡ call.Read) × ((count : ℕ) × (1 ≤ count) × (count ≤ size) × refuses 0 count))
IsUnopened refuses size fault.NoMemory = 0 < size
