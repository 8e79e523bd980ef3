-- The blocks of a plain file become those of a new image.
use Rattle.std.specs.Prelude.{◌≡◌, ◌⊎◌, ℕ, Bool, List, Result, IfErr, is_ok, true, false}
use Rattle.window.specs.declared.call.DeviceCall.{DeviceCall}
use Rattle.journal.specs.Places.{Shape, first_home}
use Rattle.device_file.specs.{Asked.Told, Copied.{IsCopied, IsCopiedInPart}, InRuns.IsAskedInRuns}
use Rattle.device_file.specs.declared.copying.CopyFault.{CopyFault}
use Rattle.device_file.specs.declared.fault.FileFault.{FileFault}
use Rattle.usbdisk.specs.images.NewImage.{IsAskedToBe}
use Rattle.device_file.specs.declared.copying.CopyFault.TheVariants as fault

-- A file that was just made or emptied was asked to write the blocks at home, as a read of the
-- plain file gave them, but those of zeros. Only then was it asked to become a new image, and that
-- begins with a flush: until that one is carried out it has no super.
pub record IsImported (holds : ℕ → List ℕ → Type 0) (shape : Shape) (old new : Told) : Type 0 where
  pub between : Told
  pub copied : IsCopied holds 0 shape.blocks (first_home shape) old between
  pub made : IsAskedToBe shape true between new

-- its last call was refused on the way to a new image
pub record IsImportedUnmade (holds : ℕ → List ℕ → Type 0) (shape : Shape) (old new : Told)
    (why : CopyFault) : Type 0 where
  pub between : Told
  pub copied : IsCopied holds 0 shape.blocks (first_home shape) old between
  pub made : IsAskedToBe shape false between new
  pub refused : FileFault
  pub why_is : why ≡ fault.To refused

-- not all blocks were copied, or it did not become a new image
abbrev pub IsNotImported : (ℕ → List ℕ → Type 0) → (ℕ → ℕ → Type 0) → Shape → Told → Told
    → CopyFault → Type 0
IsNotImported holds refuses shape old new why =
    IsCopiedInPart holds refuses 0 shape.blocks (first_home shape) old new why
    ⊎ IsImportedUnmade holds shape old new why

-- A file was asked to become an image, where nothing else could refuse. It is as large as before.
pub record MakesImage {D : Type 0} (told : D → Told) (sectors : D → ℕ) (shape : Shape)
    (old new : D) (result : Result (Unit {0}) CopyFault) : Type 0 where
  pub asked : IsAskedToBe shape (is_ok result) (told old) (told new)
  pub size : sectors new ≡ sectors old
  pub named : IfErr result (λ why. (refused : FileFault) × (why ≡ fault.To refused))

-- It was asked in runs for the blocks, and only then to become an image with these sizes; or for
-- nothing more.
pub record ImportsInRuns {D : Type 0} (told : D → Told)
    (at_once : D → List DeviceCall → D → Type 0) (shape : Shape) (old new : D) : Type 0 where
  pub copied : D
  pub blocks : IsAskedInRuns told at_once old copied
  pub made : (new ≡ copied)
      ⊎ ((good : Bool) × IsAskedToBe shape good (told copied) (told new))
