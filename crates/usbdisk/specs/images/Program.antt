-- What the program's commands do.
use Rattle.std.specs.Prelude.{◌≡◌, ◌⊎◌, ℕ, Bool, true, false, List, ◌++◌, codes, Option, Some, None}
use Rattle.std.specs.Io.KnownBytes.{Appends, Keeps}
use Rattle.journal.specs.{declared.log_format.LogFormat.LogFormat, Places.{Shape, sectors_of}}
use Rattle.medium.specs.declared.file_call.Access.TheVariants.{Look, Change}
use Rattle.device_file.specs.{Asked.{Told, begun}, FileValue.{FileValue, HasGiven, HasRefused}}
use Rattle.device_file.specs.declared.fault.FileFault.{FileFault}
use Rattle.usbdisk.specs.{console.Streams.AppendsSome, console.Texts.{ended, migration_text}}
use Rattle.usbdisk.specs.declared.console.words.ArgumentFault.{ArgumentFault}
use Rattle.usbdisk.specs.console.Status.{refusal_of_argument}
use Rattle.usbdisk.specs.declared.console.refusal.Refusal.{Refusal}
use Rattle.usbdisk.specs.images.NewImage.{IsAskedToBe}
use Rattle.usbdisk.specs.images.Limits.{IsSizesRefusal, MayHave, shape_wanted}
use Rattle.usbdisk.specs.images.Opened.{IsOpened, IsPlainUnopened, IsUnmade, made_at}
use Rattle.usbdisk.specs.images.Showing.{IsShownOf, IsNotShownOf}
use Rattle.usbdisk.specs.images.Migrating.{IsMigratedOf, IsNotMigratedOf}
use Rattle.usbdisk.specs.images.Exported.{IsExportedOf, IsNotExportedOf}
use Rattle.usbdisk.specs.images.Imported.{IsImage, IsImportUnbegun, IsNoImage}
use Rattle.usbdisk.specs.images.Task.{Wanted, Asks}
use Rattle.usbdisk.specs.images.Task.Wanted.{Help, Version, Show, Migrate, Make, Import, Export}
use Rattle.usbdisk.specs.declared.images.task.NewSizes.{NewSizes}
use Rattle.usbdisk.specs.declared.console.words.ArgumentFault.TheVariants as argument
use Rattle.usbdisk.specs.declared.console.refusal.Refusal.TheVariants as refused

abbrev pub help_text : List ℕ
help_text = ended (codes "usbdisk_image make IMAGE --blocks N --slots K --format 1|2"
    ++ codes " [--align SIZE] [--replace]")
    ++ ended (codes "usbdisk_image show IMAGE") ++ ended (codes "usbdisk_image migrate IMAGE")
    ++ ended (codes "usbdisk_image import RAW IMAGE --slots K --format 1|2 [--replace]")
    ++ ended (codes "usbdisk_image export IMAGE RAW [--replace]")

abbrev pub version_text : List ℕ
version_text = ended (codes "usbdisk_image 1.15")

abbrev pub made_text : List ℕ
made_text = ended (codes "made")

-- A file of exactly the sectors of an image with these sizes was made so, and asked to become that
-- image.
pub record IsMadeImage (made : Told) (good : Bool) (shape : Shape) (file : FileValue) : Type 0 where
  pub size : file.size ≡ sectors_of shape
  pub asked : IsAskedToBe shape good made file.told

-- What was written then, and now, and the file that comes back, where one was made or opened.
module _ (was now : Option (List ℕ)) (back : Option FileValue) where
  -- exactly this text was written
  pub record IsTold (text : List ℕ) : Type 0 where
    pub none : back ≡ None
    pub written : Appends was now text

  -- not all of it was
  pub record IsUntold (text : List ℕ) (refusal : Refusal) : Type 0 where
    pub none : back ≡ None
    pub failed : refusal ≡ refused.Streams
    pub written : AppendsSome was now text

  -- a file was made so, and in it a new image of these sizes, and exactly this was written
  pub record IsMadeAs (made : Told) (shape : Shape) : Type 0 where
    pub file : FileValue
    pub given : back ≡ Some file
    pub is_made : IsMadeImage made true shape file
    pub written : Appends was now made_text

  -- it was made, but not all of that was written
  pub record IsMakeUntold (made : Told) (shape : Shape) (refusal : Refusal) : Type 0 where
    pub file : FileValue
    pub given : back ≡ Some file
    pub is_made : IsMadeImage made true shape file
    pub failed : refusal ≡ refused.Streams
    pub written : AppendsSome was now made_text

  -- its file refused on the way there
  pub record IsMakeStopped (made : Told) (shape : Shape) (refusal : Refusal) : Type 0 where
    pub file : FileValue
    pub given : back ≡ Some file
    pub is_made : IsMadeImage made false shape file
    pub fault : FileFault
    pub refused_is : refusal ≡ refused.File fault
    pub kept : Keeps was now

  -- no file was had
  pub record HasNoFile (refusal : Refusal) : Type 0 where
    pub none : back ≡ None
    pub cause : IsUnmade refusal
    pub kept : Keeps was now

  -- with the memory for it no image was made: it is not refused for want of memory
  abbrev pub IsNotMade : Told → Shape → Refusal → Type 0
  IsNotMade made shape refusal =
      HasNoFile refusal ⊎ (IsMakeStopped made shape refusal ⊎ IsMakeUntold made shape refusal)

  -- no file was touched, since there was no memory
  pub record HasNoMemory (refusal : Refusal) : Type 0 where
    pub none : back ≡ None
    pub refused_is : refusal ≡ refused.NoMemory
    pub kept : Keeps was now

  -- nor was one: the image may not have these sizes
  pub record HasNoSizes (sizes : NewSizes) (refusal : Refusal) : Type 0 where
    pub none : back ≡ None
    pub refused_is : IsSizesRefusal sizes refusal
    pub kept : Keeps was now

  abbrev pub IsMake : Told → NewSizes → Type 0
  IsMake made sizes = MayHave sizes × IsMadeAs made (shape_wanted sizes)

  abbrev pub IsMakeRefused : Told → NewSizes → Refusal → Type 0
  IsMakeRefused made sizes refusal = HasNoSizes sizes refusal
      ⊎ (MayHave sizes × (HasNoMemory refusal ⊎ IsNotMade made (shape_wanted sizes) refusal))

-- The path of an image file; what its device holds behind the first sectors, whatever that is; what
-- was written then, and now; and the file that comes back, where one was opened.
module _ (path device : List ℕ) (was now : Option (List ℕ)) (back : Option FileValue) where
  -- the image file was opened to be read and asked for nothing, and what is in it was told
  pub record IsShow : Type 0 where
    pub file : FileValue
    pub opened : IsOpened path Look back file
    pub shown : IsShownOf (HasGiven file) file.size device was now

  -- it was not, or not all of it
  pub record IsOpenedNotShown (refusal : Refusal) : Type 0 where
    pub file : FileValue
    pub opened : IsOpened path Look back file
    pub not_shown : IsNotShownOf (HasGiven file) file.size device was now
        (HasRefused file) refusal

  abbrev pub IsShowRefused : Refusal → Type 0
  IsShowRefused refusal = HasNoFile was now back refusal ⊎ IsOpenedNotShown refusal

  -- it was opened to be changed and brought to format 2, and exactly what is told of it was written
  pub record IsMigration : Type 0 where
    pub file : FileValue
    pub given : back ≡ Some file
    pub was_one : Bool
    pub migrated : IsMigratedOf (HasGiven file) file.size device (begun path Change) file.told
        was_one
    pub written : Appends was now (migration_text was_one)

  -- it was, but not all of that was written
  pub record IsMigrationUntold (refusal : Refusal) : Type 0 where
    pub file : FileValue
    pub given : back ≡ Some file
    pub was_one : Bool
    pub migrated : IsMigratedOf (HasGiven file) file.size device (begun path Change) file.told
        was_one
    pub failed : refusal ≡ refused.Streams
    pub written : AppendsSome was now (migration_text was_one)

  -- it was not
  pub record IsOpenedNotMigrated (refusal : Refusal) : Type 0 where
    pub file : FileValue
    pub given : back ≡ Some file
    pub not_migrated : IsNotMigratedOf (HasGiven file) file.size device (begun path Change)
        file.told (HasRefused file) refusal
    pub kept : Keeps was now

  abbrev pub IsMigrationRefused : Refusal → Type 0
  IsMigrationRefused refusal = HasNoFile was now back refusal
      ⊎ (IsOpenedNotMigrated refusal ⊎ IsMigrationUntold refusal)

-- The path of a plain file, and what a file was asked when it was made for the image; what was
-- written then, and now; and the files that come back, where they were made or opened: that of the
-- image, and the plain one.
module _ (path : List ℕ) (made : Told) (was now : Option (List ℕ))
    (back raw : Option FileValue) where
  -- the plain file was opened to be read and asked for nothing, and its blocks became those of a
  -- new image
  pub record IsImport (format : LogFormat) (slots : ℕ) : Type 0 where
    pub plain : FileValue
    pub opened : IsOpened path Look raw plain
    pub imported : IsImage (HasGiven plain) (HasRefused plain) format plain.size slots was now
        made back

  -- they did not, or not all of that was told
  pub record IsOpenedNotImported (format : LogFormat) (slots : ℕ) (refusal : Refusal)
      : Type 0 where
    pub plain : FileValue
    pub opened : IsOpened path Look raw plain
    pub not_imported : IsImportUnbegun was now back refusal
        ⊎ IsNoImage (HasGiven plain) (HasRefused plain) format plain.size slots was now made back
        refusal

  -- no plain file was opened
  pub record HasNoPlain (refusal : Refusal) : Type 0 where
    pub none : back ≡ None
    pub no_plain : raw ≡ None
    pub cause : IsPlainUnopened refusal
    pub kept : Keeps was now

  abbrev pub IsImportRefused : LogFormat → ℕ → Refusal → Type 0
  IsImportRefused format slots refusal =
      HasNoPlain refusal ⊎ IsOpenedNotImported format slots refusal

-- The path of an image file; what its device holds behind the first sectors, whatever that is; what
-- a plain file was asked when it was made; what was written then, and now; and the files that come
-- back, where they were made or opened: that of the image, and the plain one.
module _ (path device : List ℕ) (made : Told) (was now : Option (List ℕ))
    (back raw : Option FileValue) where
  -- the image file was opened to be read and asked for nothing, and its blocks were copied to a
  -- plain file
  pub record IsExport : Type 0 where
    pub file : FileValue
    pub opened : IsOpened path Look back file
    pub exported : IsExportedOf (HasGiven file) (HasRefused file) file.size device was now
        made raw

  -- they were not, or not all of that was told
  pub record IsOpenedNotExported (refusal : Refusal) : Type 0 where
    pub file : FileValue
    pub opened : IsOpened path Look back file
    pub not_exported : IsNotExportedOf (HasGiven file) (HasRefused file) file.size device
        was now made raw refusal

  abbrev pub IsExportRefused : Refusal → Type 0
  IsExportRefused refusal =
      ((raw ≡ None) × HasNoFile was now back refusal) ⊎ IsOpenedNotExported refusal

-- What the device of an image file holds behind the first sectors, whatever that is; what was
-- written then, and now; and the files that come back.
module _ (device : List ℕ) (was now : Option (List ℕ)) (back raw : Option FileValue) where
  -- what was asked for was done; a plain file is there of an export or an import alone
  abbrev pub HasDone : Wanted → Type 0
  HasDone Help = (raw ≡ None) × IsTold was now back help_text
  HasDone Version = (raw ≡ None) × IsTold was now back version_text
  HasDone (Show image) = (raw ≡ None) × IsShow image device was now back
  HasDone (Migrate image) = (raw ≡ None) × IsMigration image device was now back
  HasDone (Make image sizes existing) =
      (raw ≡ None) × IsMake was now back (made_at image existing) sizes
  HasDone (Import plain image format slots existing) =
      IsImport plain (made_at image existing) was now back raw format slots
  HasDone (Export image plain existing) =
      IsExport image device (made_at plain existing) was now back raw

  -- it was not, and this is why
  abbrev pub HasNotDone : Wanted → Refusal → Type 0
  HasNotDone Help refusal = (raw ≡ None) × IsUntold was now back help_text refusal
  HasNotDone Version refusal = (raw ≡ None) × IsUntold was now back version_text refusal
  HasNotDone (Show image) refusal = (raw ≡ None) × IsShowRefused image device was now back refusal
  HasNotDone (Migrate image) refusal =
      (raw ≡ None) × IsMigrationRefused image device was now back refusal
  HasNotDone (Make image sizes existing) refusal =
      (raw ≡ None) × IsMakeRefused was now back (made_at image existing) sizes refusal
  HasNotDone (Import plain image format slots existing) refusal =
      IsImportRefused plain (made_at image existing) was now back raw format slots refusal
  HasNotDone (Export image plain existing) refusal =
      IsExportRefused image device (made_at plain existing) was now back raw refusal

  -- these words ask for nothing
  pub record AreNoWords (words : List (List ℕ)) (refusal : Refusal) : Type 0 where
    pub none : back ≡ None
    pub no_plain : raw ≡ None
    pub nothing : (wanted : Wanted) → ¬ Asks words wanted
    pub refused_is : refusal ≡ refused.Words
    pub kept : Keeps was now

  -- no words were had, for this cause: an argument is no text, or memory ran out
  pub record HasNoWords (cause : ArgumentFault) (refusal : Refusal) : Type 0 where
    pub none : back ≡ None
    pub no_plain : raw ≡ None
    pub refused_is : refusal ≡ refusal_of_argument cause
    pub kept : Keeps was now

  -- what the words ask for was done
  abbrev pub IsObeyed : List (List ℕ) → Type 0
  IsObeyed words = (wanted : Wanted) × Asks words wanted × HasDone wanted

  -- why they were refused
  abbrev pub IsRefusedFor : List (List ℕ) → Refusal → Type 0
  IsRefusedFor words refusal = AreNoWords words refusal
      ⊎ ((wanted : Wanted) × Asks words wanted × HasNotDone wanted refusal)

  -- why a program with these words was refused: there was no memory for them, or that
  abbrev pub IsProgramRefused : List (List ℕ) → Refusal → Type 0
  IsProgramRefused words refusal =
      HasNoWords argument.NoMemory refusal ⊎ IsRefusedFor words refusal
