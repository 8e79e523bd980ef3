-- What the command `export` leaves of the plain file, and of the output.
use Rattle.std.specs.Prelude.{◌≡◌, ◌⊎◌, ℕ, List, codes, Option, Some, None}
use Rattle.std.specs.Io.KnownBytes.{Appends, Keeps}
use Rattle.window.specs.{declared.call.DeviceCall.DeviceCall, Window.Window}
use Rattle.journal.specs.declared.super_sector.Super.{Super}
use Rattle.device_file.specs.{Asked.Told, FileValue.FileValue, declared.copying.CopyFault.CopyFault}
use Rattle.device_file.specs.declared.opening.FirstSectors.{FirstSectors}
use Rattle.usbdisk.specs.{console.Streams.AppendsSome, declared.console.refusal.Refusal.Refusal}
use Rattle.usbdisk.specs.images.Exporting.{HasBlocks, HasSomeBlocks, IsNotRecoveredIn}
use Rattle.usbdisk.specs.images.Exporting.{IsRecoveredIn}
use Rattle.usbdisk.specs.images.Opened.{IsTargetUnmade, WithFirst, HasNoFirst}
use Rattle.usbdisk.specs.images.Texts.{blocks_text}
use Rattle.device_file.specs.declared.copying.CopyFault.TheVariants as fault
use Rattle.usbdisk.specs.declared.console.refusal.Refusal.TheVariants as refused

-- what is told of `blocks` blocks
abbrev pub exported_text : ℕ → List ℕ
exported_text blocks = blocks_text (codes "exported ") blocks

-- the file that refused a call is the image's or the new one
abbrev pub export_refusal : CopyFault → Refusal
export_refusal (fault.From why) = refused.File why
export_refusal (fault.To why) = refused.Target why

-- Of a recovered image with these sizes, whose writes that go home wait: what a read of it gave,
-- which of them it refused, what was written then and now, what a plain file was asked when it was
-- made, and that file, where one was made.
module _ (holds : ℕ → List ℕ → Type 0) (refuses : ℕ → ℕ → Type 0) (sizes : Super)
    (waiting : List DeviceCall) (was now : Option (List ℕ)) (made : Told)
    (raw : Option FileValue) where
  -- A plain file of exactly its blocks was made, or emptied, and asked for them, and that was told.
  pub record IsPlainCopy : Type 0 where
    pub plain : FileValue
    pub given : raw ≡ Some plain
    pub size : plain.size ≡ sizes.blocks
    pub asked : HasBlocks holds sizes waiting made plain.told
    pub written : Appends was now (exported_text sizes.blocks)

  -- not all was told
  pub record IsCopyUntold (refusal : Refusal) : Type 0 where
    pub plain : FileValue
    pub given : raw ≡ Some plain
    pub size : plain.size ≡ sizes.blocks
    pub asked : HasBlocks holds sizes waiting made plain.told
    pub failed : refusal ≡ refused.Streams
    pub written : AppendsSome was now (exported_text sizes.blocks)

  -- the image or the plain file refused a call on the way there
  pub record IsCopyStopped (refusal : Refusal) : Type 0 where
    pub plain : FileValue
    pub given : raw ≡ Some plain
    pub size : plain.size ≡ sizes.blocks
    pub why : CopyFault
    pub asked : HasSomeBlocks holds refuses sizes waiting made plain.told why
    pub refused_is : refusal ≡ export_refusal why
    pub kept : Keeps was now

  -- there was no memory, and no plain file was made
  pub record IsCopyUnbegun (refusal : Refusal) : Type 0 where
    pub none : raw ≡ None
    pub refused_is : refusal ≡ refused.NoMemory
    pub kept : Keeps was now

  -- no plain file was had
  pub record IsCopyUnmade (refusal : Refusal) : Type 0 where
    pub none : raw ≡ None
    pub cause : IsTargetUnmade refusal
    pub kept : Keeps was now

  -- with the memory for it no plain copy was made: it is not refused for want of memory
  abbrev pub IsNoCopyMade : Refusal → Type 0
  IsNoCopyMade refusal =
      IsCopyUnmade refusal ⊎ (IsCopyStopped refusal ⊎ IsCopyUntold refusal)

  abbrev pub IsNoPlainCopy : Refusal → Type 0
  IsNoPlainCopy refusal = IsCopyUnbegun refusal ⊎ IsNoCopyMade refusal

-- of an image with these first sectors, on a device that holds these bytes behind them
module _ (holds : ℕ → List ℕ → Type 0) (refuses : ℕ → ℕ → Type 0) (first : FirstSectors)
    (device : List ℕ) (was now : Option (List ℕ)) (made : Told) (raw : Option FileValue) where
  -- it was recovered in a window, and copied
  pub record IsExported : Type 0 where
    pub sizes : Super
    pub after : Window
    pub recovered : IsRecoveredIn first device sizes after
    pub copied : IsPlainCopy holds refuses sizes after.outbox was now made raw

  -- it was recovered, and not copied
  pub record IsExportStopped (refusal : Refusal) : Type 0 where
    pub sizes : Super
    pub after : Window
    pub recovered : IsRecoveredIn first device sizes after
    pub stopped : IsNoPlainCopy holds refuses sizes after.outbox was now made raw refusal

  -- it was not recovered, and no plain file was made
  pub record IsExportUnbegun (refusal : Refusal) : Type 0 where
    pub none : raw ≡ None
    pub cause : IsNotRecoveredIn first device refusal
    pub kept : Keeps was now

  abbrev pub IsNotExported : Refusal → Type 0
  IsNotExported refusal = IsExportUnbegun refusal ⊎ IsExportStopped refusal

-- Of the file of an image, of `size` sectors: what its reads gave, which of them it refused, and
-- what the device holds behind its first sectors, whatever that is.
module _ (holds : ℕ → List ℕ → Type 0) (refuses : ℕ → ℕ → Type 0) (size : ℕ) (device : List ℕ)
    (was now : Option (List ℕ)) (made : Told) (raw : Option FileValue) where
  -- its first sectors were read, and its blocks copied
  abbrev pub IsExportedOf : Type 0
  IsExportedOf = WithFirst holds size
      (λ first. IsExported holds refuses first device was now made raw)

  -- they were not read, and no plain file was made
  pub record IsUnreadToExport (refusal : Refusal) : Type 0 where
    pub none : raw ≡ None
    pub cause : HasNoFirst refuses size refusal
    pub kept : Keeps was now

  abbrev pub IsNotExportedOf : Refusal → Type 0
  IsNotExportedOf refusal = IsUnreadToExport refusal
      ⊎ WithFirst holds size
      (λ first. IsNotExported holds refuses first device was now made raw refusal)
