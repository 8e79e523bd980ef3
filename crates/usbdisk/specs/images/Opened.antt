-- Files that were opened or made, and a window over that of an image.
use Rattle.std.specs.Prelude.{◌≡◌, ◌⊎◌, ◌*◌, ◌+◌, ◌≤◌, ℕ, List, length, min, Option, Some}
use Rattle.medium.specs.{Writes.sector_of, declared.file_call.Access.Access}
use Rattle.journal.specs.{Sectors.IsSuper, Formats.shape_of, declared.super_sector.Super.Super}
use Rattle.window.specs.Window.{Window}
use Rattle.device_file.specs.{Asked.{Told, begun}, FileValue.{FileValue, made_for}}
use Rattle.device_file.specs.{First.{IsUnopened, SpellsSuper, near_of}, Reads.AreRead}
use Rattle.device_file.specs.declared.existing.Existing.{Existing}
use Rattle.device_file.specs.declared.fault.FileFault.{FileFault}
use Rattle.device_file.specs.declared.opening.FirstSectors.{FirstSectors}
use Rattle.device_file.specs.declared.opening.OpenFault.{OpenFault}
use Rattle.usbdisk.specs.{console.Status.refusal_of_open, declared.console.refusal.Refusal.Refusal}
use Rattle.usbdisk.specs.declared.images.image.FilePlace.{FilePlace}
use Rattle.window.specs.Window as window
use Rattle.device_file.specs.FileValue as file
use Rattle.usbdisk.specs.declared.console.refusal.Refusal.TheVariants as refused

-- These are the first sectors of a file of `size` sectors, exactly as its reads gave them: all
-- before the first home sector that their super tells, and two where they have none; those that the
-- file has, where it is shorter.
pub record HasFirst (holds : ℕ → List ℕ → Type 0) (size : ℕ) (first : FirstSectors) : Type 0 where
  pub size_is : first.sectors ≡ size
  pub spells : SpellsSuper first.sizes (sector_of first.bytes.items 0)
  pub count : length first.bytes.items ≡ 512 * min (near_of first.sizes) size
  pub read : AreRead holds 0 first.bytes.items

-- the first sectors of a file were read, and this holds of them
pub record WithFirst (holds : ℕ → List ℕ → Type 0) (size : ℕ) (P : FirstSectors → Type 0)
    : Type 0 where
  pub first : FirstSectors
  pub has : HasFirst holds size first
  pub so : P first

-- No first sectors were had of a file that refuses these reads and has `size` sectors: it has none,
-- it refused a read of first ones, or there was no memory.
abbrev pub HasNoFirst : (ℕ → ℕ → Type 0) → ℕ → Refusal → Type 0
HasNoFirst refuses size refusal =
    (why : OpenFault) × IsUnopened refuses size why × (refusal ≡ refusal_of_open why)

-- Their first sector spells this super, and the file has all sectors of the image.
pub record HaveImage (first : FirstSectors) (sizes : Super) : Type 0 where
  pub sizes_are : first.sizes ≡ Some sizes
  pub spells : IsSuper (shape_of sizes) (sector_of first.bytes.items 0)
  pub fits : sizes.home + sizes.blocks ≤ first.sectors

-- a window over a device that holds these first sectors and behind them these bytes, with room for
-- `room` calls
abbrev pub IsWindowOver : FirstSectors → List ℕ → ℕ → Window → Type 0
IsWindowOver first device room w =
    w ≡ window.fresh first.sectors first.bytes.items device 0 room

-- the file at this path was opened for this, and asked for nothing
pub record IsOpened (path : List ℕ) (access : Access) (back : Option FileValue) (v : FileValue)
    : Type 0 where
  pub given : back ≡ Some v
  pub opened : file.IsOpened path access v

-- what a file was asked that was made at this path, or emptied where it may be replaced: nothing
abbrev pub made_at : List ℕ → Existing → Told
made_at path existing = begun path (made_for existing)

-- and of one that was made in this place
abbrev pub made_in : {R : Type 0} → FilePlace R → Told
made_in place = made_at place.path.now place.existing

-- no file was made or opened: it refused, or a stream
abbrev pub IsUnmade : Refusal → Type 0
IsUnmade refusal = ((fault : FileFault) × (refusal ≡ refused.File fault))
    ⊎ (refusal ≡ refused.Streams)

-- the same of the plain file that an import reads
abbrev pub IsPlainUnopened : Refusal → Type 0
IsPlainUnopened refusal = ((fault : FileFault) × (refusal ≡ refused.Plain fault))
    ⊎ (refusal ≡ refused.Streams)

-- and of the new file of an export or an import
abbrev pub IsTargetUnmade : Refusal → Type 0
IsTargetUnmade refusal = ((fault : FileFault) × (refusal ≡ refused.Target fault))
    ⊎ (refusal ≡ refused.Streams)
