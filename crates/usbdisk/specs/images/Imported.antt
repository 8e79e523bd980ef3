-- What the command `import` leaves of the image's file, and of the output.
use Rattle.std.specs.Prelude.{◌≡◌, ◌⊎◌, ℕ, List, codes, Option, Some, None}
use Rattle.std.specs.Io.KnownBytes.{Appends, Keeps}
use Rattle.journal.specs.{declared.log_format.LogFormat.LogFormat, Places.{new_shape, sectors_of}}
use Rattle.device_file.specs.{Asked.Told, FileValue.FileValue, declared.copying.CopyFault.CopyFault}
use Rattle.usbdisk.specs.{console.Streams.AppendsSome, declared.console.refusal.Refusal.Refusal}
use Rattle.usbdisk.specs.{images.Importing.{IsImported, IsNotImported}, images.Limits.AreLimits}
use Rattle.usbdisk.specs.{images.Opened.IsTargetUnmade, images.Texts.blocks_text}
use Rattle.device_file.specs.declared.copying.CopyFault.TheVariants as fault
use Rattle.usbdisk.specs.declared.console.refusal.Refusal.TheVariants as refused

-- what is told of `blocks` blocks
abbrev pub imported_text : ℕ → List ℕ
imported_text blocks = blocks_text (codes "imported ") blocks

-- the file that refused a call is the plain one or the image's, which is new
abbrev pub import_refusal : CopyFault → Refusal
import_refusal (fault.From why) = refused.Plain why
import_refusal (fault.To why) = refused.Target why

-- Of a plain file of `blocks` sectors. What a read of it gave, which of them it refused, what was
-- written then and now, what a file was asked when it was made for the image, and that file, where
-- one was made.
module _ (holds : ℕ → List ℕ → Type 0) (refuses : ℕ → ℕ → Type 0) (format : LogFormat)
    (blocks slots : ℕ) (was now : Option (List ℕ)) (made : Told) (back : Option FileValue) where
  -- A file of exactly the sectors of an image for these blocks was made, or emptied, and asked to
  -- become it, and that was told.
  pub record IsImage : Type 0 where
    pub limits : AreLimits blocks slots
    pub file : FileValue
    pub given : back ≡ Some file
    pub size : file.size ≡ sectors_of (new_shape format blocks slots)
    pub asked : IsImported holds (new_shape format blocks slots) made file.told
    pub written : Appends was now (imported_text blocks)

  -- not all was told
  pub record IsImportUntold (refusal : Refusal) : Type 0 where
    pub limits : AreLimits blocks slots
    pub file : FileValue
    pub given : back ≡ Some file
    pub size : file.size ≡ sectors_of (new_shape format blocks slots)
    pub asked : IsImported holds (new_shape format blocks slots) made file.told
    pub failed : refusal ≡ refused.Streams
    pub written : AppendsSome was now (imported_text blocks)

  -- the plain file or that of the image refused a call on the way there
  pub record IsImportStopped (refusal : Refusal) : Type 0 where
    pub limits : AreLimits blocks slots
    pub file : FileValue
    pub given : back ≡ Some file
    pub size : file.size ≡ sectors_of (new_shape format blocks slots)
    pub why : CopyFault
    pub asked : IsNotImported holds refuses (new_shape format blocks slots) made file.told why
    pub refused_is : refusal ≡ import_refusal why
    pub kept : Keeps was now

  -- no file was had for the image
  pub record IsImportUnmade (refusal : Refusal) : Type 0 where
    pub none : back ≡ None
    pub limits : AreLimits blocks slots
    pub cause : IsTargetUnmade refusal
    pub kept : Keeps was now

  -- the sizes are out of their limits, and no file was made
  pub record IsImportOver (refusal : Refusal) : Type 0 where
    pub none : back ≡ None
    pub limits : ¬ AreLimits blocks slots
    pub refused_is : refusal ≡ refused.Sizes
    pub kept : Keeps was now

  -- With the memory for it no image was made: it is not refused for want of memory.
  abbrev pub IsNoImage : Refusal → Type 0
  IsNoImage refusal = IsImportOver refusal ⊎ (IsImportUnmade refusal
      ⊎ (IsImportStopped refusal ⊎ IsImportUntold refusal))

-- there was no memory, and no file was made for the image
pub record IsImportUnbegun (was now : Option (List ℕ)) (back : Option FileValue)
    (refusal : Refusal) : Type 0 where
  pub none : back ≡ None
  pub refused_is : refusal ≡ refused.NoMemory
  pub kept : Keeps was now
