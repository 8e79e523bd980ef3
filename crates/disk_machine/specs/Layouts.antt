-- What a maker is told of an image by its first sector.
use Rattle.std.specs.Prelude.{◌≡◌, ◌⊎◌, ℕ, List}
use Rattle.journal.specs.{Places.{Shape, first_home, sectors_of}, Sectors.{IsSuper, version_of}}
use Rattle.journal.specs.{Sectors.IsSuperFault, declared.super_fault.SuperFault.SuperFault}
use Rattle.disk_machine.specs.{Codes.number_of, declared.look.UsbDiskLayout.UsbDiskLayout}
use Rattle.journal.specs.declared.super_fault.SuperFault.TheVariants as super
use Rattle.recovery.specs.declared.start_fault.StartFault.TheVariants as fault

-- the numbers of a shape: its first home sector is that of the first sectors which go into memory
pub record IsLayout (shape : Shape) (told : UsbDiskLayout) : Type 0 where
  pub format : told.format ≡ version_of shape.format
  pub slots : told.slots ≡ shape.slots
  pub blocks : told.blocks ≡ shape.blocks
  pub home : told.home ≡ first_home shape
  pub sectors : told.sectors ≡ sectors_of shape

-- a start refuses a sector with this fault by this number
abbrev pub code_of_super : SuperFault → ℕ
code_of_super super.Magic = number_of fault.BadSuper
code_of_super super.Version = number_of fault.BadVersion
code_of_super super.Rest = number_of fault.BadSuper
code_of_super super.Sizes = number_of fault.BadSize

-- The sector is a super, and its sizes are told; or it has a fault, and nothing changes.
abbrev pub TellsLayout : List ℕ → UsbDiskLayout → UsbDiskLayout → ℕ → Type 0
TellsLayout sector old new code =
    ((shape : Shape) × IsSuper shape sector × (code ≡ 0) × IsLayout shape new)
    ⊎ ((why : SuperFault) × IsSuperFault why sector × (code ≡ code_of_super why) × (new ≡ old))
