-- What the program's commands do.
use Rattle.std.specs.Prelude.{◌≡◌, ◌⊎◌, ◌*◌, ℕ, Bool, List, [], length, codes, Option, Some, None}
use Rattle.std.specs.Io.KnownBytes.{Appends, Keeps}
use Rattle.medium.specs.{Medium.State, FileStory.IsReadWhole, ImageFile.{Copied, IsImage, fresh}}
use Rattle.medium.specs.{Sim.Sim, Power.powered, Tally.none}
use Rattle.journal.specs.{declared.log_format.LogFormat.LogFormat, Places.{new_shape, sectors_of}}
use Rattle.recovery.specs.Calls.{AreSizes, IsFormatted}
use Rattle.recovery.specs.Recovered.{IsMigrationBy, IsMigrationCause, MigrationLeaves}
use Rattle.recovery.specs.declared.recovered.Recovered.{Recovered}
use Rattle.spec.specs.Packets.{bytes_of}
use Rattle.bot_machine.specs.StartFaults.{StartFault}
use Rattle.usbdisk.specs.{console.Streams.AppendsSome, console.Texts.{ended, migration_text}}
use Rattle.usbdisk.specs.declared.console.words.ArgumentFault.{ArgumentFault}
use Rattle.usbdisk.specs.declared.console.refusal.Refusal.{Refusal}
use Rattle.usbdisk.specs.console.Status.{refusal_of_argument}
use Rattle.usbdisk.specs.declared.runner.fault.ScriptFault.{ScriptFault}
use Rattle.usbdisk.specs.declared.runner.task.Task.{Task}
use Rattle.usbdisk.specs.runner.Outcome.{IsPlayed, IsRefused}
use Rattle.usbdisk.specs.runner.OutcomeOfLives.{ArePlayed, AreRefused}
use Rattle.usbdisk.specs.{runner.Refused.refusal_of_fault, runner.Task.{SpellsTask, IsCommandLine}}
use Rattle.medium.specs.ImageFile as file
use Rattle.usbdisk.specs.declared.console.refusal.Refusal.TheVariants as refused
use Rattle.usbdisk.specs.declared.runner.task.Task.TheVariants.{Format, Migrate, Run}
use Rattle.usbdisk.specs.declared.runner.task.Task.TheVariants.{Sim as InMemory}

-- `blocks` blocks and `slots` log slots of this format make an image of at most 65,536 sectors
abbrev pub AreImageSizes : LogFormat → ℕ → ℕ → Type 0
AreImageSizes format blocks slots = AreSizes 65536 (new_shape format blocks slots)

-- an image file at this path, of exactly the sectors that `blocks` blocks and `slots` log slots of
-- this format take, formatted
pub record IsMade (path : List ℕ) (format : LogFormat) (blocks slots : ℕ) (made : Copied)
    : Type 0 where
  pub path_is : made.file.path ≡ path
  pub sizes : AreImageSizes format blocks slots
  pub exact : length made.bytes ≡ 512 * sectors_of (new_shape format blocks slots)
  pub formatted : IsFormatted (new_shape format blocks slots) (file.state_of made)

-- a simulated medium of these bytes, all flushed, with room for 16,384 unflushed writes
abbrev pub simulated : List ℕ → Sim
simulated image = record {
  flushed = image;
  unflushed = [];
  room = 16384;
  power = powered;
  flushes = 0;
  calls = 0;
  made = none;
  refused = none;
  without_room = 0;
}

-- a file was not read, or was no image, or there was no memory for it
abbrev pub IsUnread : Refusal → Type 0
IsUnread refusal = (refusal ≡ refused.ImageLength)
    ⊎ ((refusal ≡ refused.FileFailed) ⊎ (refusal ≡ refused.NoMemory))

-- the image file at this path was opened, and this is its medium before the first call
pub record IsJustOpened (path : List ℕ) (opened : Copied) : Type 0 where
  pub is_fresh : opened ≡ fresh opened.file opened.bytes
  pub is_image : IsImage opened.bytes
  -- it was locked, measured and read, and nothing else, and these are its bytes
  pub is_read : IsReadWhole path opened.bytes opened.file

-- the medium comes back, and this holds of it
abbrev pub IsBack : {M : Type 0} → (M → Type 0) → Option M → Type 0
IsBack {M} Holds back = (after : M) × (back ≡ Some after) × Holds after

-- the image file at this path was opened, and comes back as work on it has left it
pub record ComesBack (back : Option Copied) (path : List ℕ) (Work : Copied → Copied → Type 0)
    : Type 0 where
  pub opened : Copied
  pub is_opened : IsJustOpened path opened
  pub after : Copied
  pub given : back ≡ Some after
  pub path_is : after.file.path ≡ path
  pub work : Work opened after

-- playing a script on a medium was refused, and this is why
abbrev pub IsPlayRefused : {M : Type 0} → (M → State) → ℕ → Option (List ℕ) → Option (List ℕ)
    → Option (List ℕ) → M → M → Refusal → Type 0
IsPlayRefused state most left was now medium back refusal = (fault : ScriptFault)
    × IsRefused state most left was now medium fault back × (refusal ≡ refusal_of_fault fault)

-- What was written then, and now. A text was appended, or some of it: `Appends` or `AppendsSome`.
module _ (was now : Option (List ℕ)) where
  module _ {M : Type 0} (state : M → State) (medium : M) where
    -- The medium was brought to format 2, what is told of it was appended, and nothing was done to
    -- it afterwards. The truth value says that it was of format 1; else it was recovered.
    pub record IsMigratedBy (Writes : Option (List ℕ) → Option (List ℕ) → List ℕ → Type 0)
        (back : M) : Type 0 where
      pub was_one : Bool
      pub answer : Recovered
      pub migrated : IsMigrationBy was_one (state medium) (state back) answer
      pub leaves : MigrationLeaves (state medium) (state back)
      pub written : Writes was now (migration_text was_one)

    abbrev pub IsMigrated : M → Type 0
    IsMigrated back = IsMigratedBy Appends back

    -- It was not: the device refused a call, or the image has a fault, and then nothing was written
    -- to it.
    pub record IsMigrationStopped (back : M) (refusal : Refusal) : Type 0 where
      pub fault : StartFault
      pub cause : IsMigrationCause (state medium) (state back) fault
      pub leaves : MigrationLeaves (state medium) (state back)
      pub told : refusal ≡ refused.ImageFault fault
      pub kept : Keeps was now

    -- it was not, or not all of what is told of it was written
    abbrev pub IsNotMigrated : M → Refusal → Type 0
    IsNotMigrated back refusal = IsMigrationStopped back refusal
        ⊎ ((refusal ≡ refused.FileFailed) × IsMigratedBy AppendsSome back)

  -- The medium of the image file comes back, where one was opened or made: with exactly what the
  -- work on it has left.
  module _ (back : Option Copied) where
    -- there is none, and nothing was written
    abbrev pub IsUntouched : Type 0
    IsUntouched = (back ≡ None) × Keeps was now

    -- an image file of this format and these sizes was made at this path, and this was appended
    pub record IsFormatBy (Writes : Option (List ℕ) → Option (List ℕ) → List ℕ → Type 0)
        (path : List ℕ) (format : LogFormat) (blocks slots : ℕ) : Type 0 where
      pub made : Copied
      pub given : back ≡ Some made
      pub is_made : IsMade path format blocks slots made
      pub written : Writes was now (ended (codes "formatted"))

    abbrev pub IsFormat : List ℕ → LogFormat → ℕ → ℕ → Type 0
    IsFormat path format blocks slots = IsFormatBy Appends path format blocks slots

    -- the image file at this path is of format 2 now, and exactly what is told of it was appended
    abbrev pub IsMigration : List ℕ → Type 0
    IsMigration path = ComesBack back path (λ opened after. IsMigrated file.state_of opened after)

    -- exactly the text of a life of some script's events on the image file at this path was
    -- appended, with packets of at most `most` bytes
    abbrev pub IsRun : List ℕ → ℕ → Type 0
    IsRun path most = ComesBack back path (λ opened after.
        (left : Option (List ℕ)) × IsPlayed file.state_of most left was now opened after)

    -- exactly the text of lives by some script's lines over a copy of some image was appended, with
    -- packets of at most `most` bytes
    pub record IsSim (most : ℕ) : Type 0 where
      pub none : back ≡ None
      pub image : List ℕ
      pub is_image : IsImage image
      pub left : Option (List ℕ)
      pub after : Sim
      pub played : ArePlayed most left was now (simulated image) after

    -- what is asked for was done
    abbrev pub IsDone : Task → Type 0
    IsDone (Format image sizes) = IsFormat image.now sizes.format sizes.blocks sizes.slots
    IsDone (Migrate image) = IsMigration image.now
    IsDone (Run image script size) = IsRun image.now (bytes_of size)
    IsDone (InMemory image script size) = IsSim (bytes_of size)

    abbrev pub HasDone : List (List ℕ) → Type 0
    HasDone words = (task : Task) × SpellsTask words task × IsDone task

    -- No image file was made: the sizes are out of their limits. Or they are not, and there was no
    -- memory, or a file failed, the output perhaps.
    abbrev pub IsFormatRefused : List ℕ → LogFormat → ℕ → ℕ → Refusal → Type 0
    IsFormatRefused path format blocks slots refusal =
        ((refusal ≡ refused.ImageSize) × (¬ AreImageSizes format blocks slots) × IsUntouched)
        ⊎ ((¬ (¬ AreImageSizes format blocks slots))
        × (((refusal ≡ refused.NoMemory) × IsUntouched) ⊎ ((refusal ≡ refused.FileFailed)
        × (IsUntouched ⊎ IsFormatBy AppendsSome path format blocks slots))))

    -- no image file was opened, and nothing was written
    abbrev pub NoImage : Refusal → Type 0
    NoImage refusal = IsUnread refusal × IsUntouched

    -- the image file at this path was not brought to format 2, or not all was told of it
    abbrev pub IsMigrationRefused : List ℕ → Refusal → Type 0
    IsMigrationRefused path refusal = NoImage refusal
        ⊎ ComesBack back path (λ opened after. IsNotMigrated file.state_of opened after refusal)

    -- a script file was not opened: the image file is as it was; or its script was refused, and
    -- this is why
    abbrev pub IsRunRefused : List ℕ → ℕ → Refusal → Type 0
    IsRunRefused path most refusal = NoImage refusal ⊎ ComesBack back path (λ opened after.
        ((refusal ≡ refused.FileFailed) × (after ≡ opened) × Keeps was now)
        ⊎ ((left : Option (List ℕ))
        × IsPlayRefused file.state_of most left was now opened after refusal))

    -- a script over a copy of an image was refused, and this is why
    pub record ArePlaysRefused (most : ℕ) (refusal : Refusal) : Type 0 where
      pub none : back ≡ None
      pub image : List ℕ
      pub is_image : IsImage image
      pub left : Option (List ℕ)
      pub fault : ScriptFault
      pub after : Sim
      pub refused : AreRefused most left was now (simulated image) fault after
      pub told : refusal ≡ refusal_of_fault fault

    abbrev pub IsSimRefused : ℕ → Refusal → Type 0
    IsSimRefused most refusal = NoImage refusal ⊎ ArePlaysRefused most refusal

    -- what is asked for was not done
    abbrev pub IsNotDone : Task → Refusal → Type 0
    IsNotDone (Format image sizes) refusal =
        IsFormatRefused image.now sizes.format sizes.blocks sizes.slots refusal
    IsNotDone (Migrate image) refusal = IsMigrationRefused image.now refusal
    IsNotDone (Run image script size) refusal = IsRunRefused image.now (bytes_of size) refusal
    IsNotDone (InMemory image script size) refusal = IsSimRefused (bytes_of size) refusal

    -- why words were refused: there was no memory to read them; or they are no command line; or
    -- what they ask for was not done
    abbrev pub IsRefusedFor : List (List ℕ) → Refusal → Type 0
    IsRefusedFor words refusal = ((refusal ≡ refused.NoMemory) × IsUntouched)
        ⊎ (((refusal ≡ refused.Words) × (¬ IsCommandLine words) × IsUntouched)
        ⊎ ((task : Task) × SpellsTask words task × IsNotDone task refusal))

    -- no words were had, for this cause: an argument is no text, or memory ran out
    abbrev pub HasNoWords : ArgumentFault → Refusal → Type 0
    HasNoWords cause refusal = (refusal ≡ refusal_of_argument cause) × IsUntouched
