-- What a device holds that held zeros, and then carried out what a copy asks of it.
use Rattle.std.specs.Prelude.{◌≡◌, ◌≤◌, ◌<◌, ℕ, List, ◌++◌, length, take, get_or, replicate, All}
use Rattle.medium.specs.Medium.{Image, CutLeaves, Only}
use Rattle.logical_blocks.specs.Blocks.{Array}
use Rattle.window.specs.{Device.{Device, after}, declared.call.DeviceCall.DeviceCall}
use Rattle.window.specs.Window.{Window, state_of}
use Rattle.journal.specs.{declared.super_sector.Super.Super, Places.{Shape, first_home, sectors_of}}
use Rattle.journal.specs.{Sectors.{IsSuper, IsHead}, Standing.IsOurs}
use Rattle.recovery.specs.Calls.{IsNoneOrNew}
use Rattle.device_file.specs.{Copied.some_writes, Reads.AreReadFrom}
use Rattle.device_file.specs.declared.opening.FirstSectors.{FirstSectors}
use Rattle.usbdisk.specs.images.Exporting.{IsRecoveredIn, exporting}
use Rattle.usbdisk.specs.images.NewImage.{emptied, making}

-- the first sectors hold the blocks of this array, and a cut leaves what it holds
pub record HoldsBlocks (blocks : ℕ) (array : Array) (device : Device) : Type 0 where
  pub durable : Only device.content device.may_leave
  pub holds : (b : ℕ) → b < blocks → device.content b ≡ array b

-- An image was recovered in a window over its file, and these blocks are what it had at home
-- before. A plain file that carries out what an export asks of it holds the array that the recovery
-- answers: the one for which the image stood.
abbrev pub ExportingExports : Type 0
ExportingExports = (first : FirstSectors) (device : List ℕ) (sizes : Super) (w : Window)
    (image : IsRecoveredIn first device sizes w) (blocks : List (List ℕ))
    → length blocks ≡ sizes.blocks
    → AreReadFrom (λ s block. block ≡ (state_of image.window).content s) sizes.home blocks
    → HoldsBlocks sizes.blocks image.recovered.array
    (after emptied (exporting sizes blocks w.outbox))

-- these blocks as an array
abbrev pub array_of : List (List ℕ) → Array
array_of blocks b = get_or blocks b (replicate 512 0)

-- The one image that a cut may leave has these sizes, the head at stamp 1, and zeros in its log; it
-- is ours, for this array, and its next stamp is 2.
pub record IsImageOf (size : ℕ) (shape : Shape) (array : Array) (device : Device) : Type 0 where
  pub durable : Only device.content device.may_leave
  pub super : IsSuper shape (device.content 0)
  pub head : IsHead 1 (device.content 1)
  pub log : (s : ℕ) → 2 ≤ s → s < first_home shape → device.content s ≡ replicate 512 0
  pub ours : IsOurs size shape device.content array 2

-- Behind these writes the calls make an image of this array. Once the first of them is carried out,
-- a cut leaves no super or that image.
pub record MakeImageOf (size : ℕ) (shape : Shape) (array : Array) (writes calls : List DeviceCall)
    : Type 0 where
  pub all : IsImageOf size shape array (after emptied (writes ++ calls))
  pub cuts : (count : ℕ) (image : Image) → 1 ≤ count
      → CutLeaves (after emptied (writes ++ take count calls)).may_leave image
      → IsNoneOrNew size shape array image

-- so for each super and head, each device that is long enough, and as many blocks as it tells
abbrev pub ImportingMakesImage : Type 0
ImportingMakesImage = (shape : Shape) (super head : List ℕ) (size : ℕ) (blocks : List (List ℕ))
    → IsSuper shape super → IsHead 1 head → sectors_of shape ≤ size
    → length blocks ≡ shape.blocks → All (λ block. length block ≡ 512) blocks
    → MakeImageOf size shape (array_of blocks) (some_writes (first_home shape) blocks)
    (making super head)
