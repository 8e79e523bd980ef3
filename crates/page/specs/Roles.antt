-- What the sectors of an image are.
use Rattle.std.specs.Prelude.{◌≡◌, ◌≤◌, ℕ, ◌-◌, ◌/◌, ◌%◌, ◌==◌, if◌then◌else◌, nat_lt}
use Rattle.journal.specs.Formats.{shape_of}
use Rattle.journal.specs.Places.{Shape, first_home, sectors_of, slot_sectors_of, limit_of}
use Rattle.journal.specs.Places.{new_shape}
use Rattle.journal.specs.Sectors.{version_of}
use Rattle.journal.specs.declared.log_format.LogFormat.{LogFormat}
use Rattle.journal.specs.declared.super_sector.Super.{Super}
use Rattle.page.specs.declared.sectors.Part.{Part}
use Rattle.page.specs.declared.sectors.Part.TheVariants.{Descriptor, Data, Commit}
use Rattle.page.specs.declared.sectors.Role.{Role}
use Rattle.page.specs.declared.sectors.Role.TheVariants.{None, Head, Log, Home}
use Rattle.page.specs.declared.sectors.Role.TheVariants as role

-- the super, the head, a sector of a slot, the home of a block, or none of the image
abbrev pub role_of : Shape → ℕ → Role
role_of shape sector =
    if sector == 0 then role.Super else if sector == 1 then Head
    else if nat_lt sector (first_home shape)
    then Log ((sector - 2) / slot_sectors_of shape.format)
    ((sector - 2) % slot_sectors_of shape.format)
    else if nat_lt sector (sectors_of shape) then Home (sector - first_home shape) else None

-- how many sectors of a slot are for descriptors: those beside the data places and the commit
abbrev pub descriptors_in : LogFormat → ℕ
descriptors_in format = slot_sectors_of format - limit_of format - 1

-- what the sector of a slot with this number in it is
abbrev pub part_of : LogFormat → ℕ → Part
part_of format number =
    if nat_lt number (descriptors_in format) then Descriptor number
    else if nat_lt (number - descriptors_in format) (limit_of format)
    then Data (number - descriptors_in format) else Commit

abbrev pub part_code : Part → ℕ
part_code (Descriptor j) = 3
part_code (Data i) = 4
part_code Commit = 5

abbrev pub role_code : LogFormat → Role → ℕ
role_code format None = 0
role_code format role.Super = 1
role_code format Head = 2
role_code format (Log slot number) = part_code (part_of format number)
role_code format (Home block) = 6

-- what a sector of an image is, as a number
abbrev pub sector_code : Shape → ℕ → ℕ
sector_code shape sector = role_code shape.format (role_of shape sector)

-- the sizes of an image of the page
pub record AreSizes (format slots blocks : ℕ) : Type 0 where
  pub some_format : 1 ≤ format
  pub few_formats : format ≤ 2
  pub some_slots : 1 ≤ slots
  pub few_slots : slots ≤ 4
  pub some_blocks : 1 ≤ blocks
  pub few_blocks : blocks ≤ 32

-- an image of these sizes
pub record HasSizes (format slots blocks : ℕ) (sizes : Super) : Type 0 where
  pub are : AreSizes format slots blocks
  pub version : format ≡ version_of sizes.format
  pub shape : shape_of sizes ≡ new_shape sizes.format blocks slots

-- the number tells what a sector of an image of these sizes is
pub record TellsRole (format slots blocks sector told : ℕ) : Type 0 where
  pub kind : LogFormat
  pub version : format ≡ version_of kind
  pub is : told ≡ sector_code (new_shape kind blocks slots) sector
