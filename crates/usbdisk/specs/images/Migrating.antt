-- An image in a file is migrated.
use Rattle.std.specs.Prelude.{◌≡◌, ◌⊎◌, ℕ, Bool, true, false, List, [], Option, Some, None}
use Rattle.journal.specs.declared.super_sector.Super.{Super}
use Rattle.window.specs.Window.{Window, state_of, ComesAfter, CoversDevice}
use Rattle.recovery.specs.Recovered.{IsMigrationBy, IsMigrationRefusal, MigrationLeaves}
use Rattle.recovery.specs.Causes.{IsDeviceFault}
use Rattle.recovery.specs.Recovered.{most_migration_sends}
use Rattle.recovery.specs.declared.recovered.Recovered.{Recovered}
use Rattle.recovery.specs.declared.start_fault.StartFault.{StartFault}
use Rattle.device_file.specs.Asked.{Told}
use Rattle.device_file.specs.Outbox.{IsCarriedOut}
use Rattle.device_file.specs.declared.fault.FileFault.{FileFault}
use Rattle.device_file.specs.declared.opening.FirstSectors.{FirstSectors}
use Rattle.usbdisk.specs.images.Opened.{IsWindowOver, HaveImage, WithFirst, HasNoFirst}
use Rattle.usbdisk.specs.declared.console.refusal.Refusal.{Refusal}
use Rattle.usbdisk.specs.declared.console.refusal.Refusal.TheVariants as refused

-- as many writes and flushes as a migration makes at most; one flush comes before a super is sought
abbrev pub migration_room : Option Super → ℕ
migration_room (Some sizes) = most_migration_sends sizes.format sizes.slots
migration_room None = 1

-- The image over these first sectors, with these bytes behind them, was migrated in a window over
-- its file. What waits there then
-- is all that was given to the device: wherever among these calls it is, a cut of it leaves what a
-- cut at some moment of the migration could.
pub record IsMigratedIn (first : FirstSectors) (device : List ℕ) (was_one : Bool) (after : Window)
    : Type 0 where
  pub window : Window
  pub over : IsWindowOver first device (migration_room first.sizes) window
  pub answer : Recovered
  pub migrated : IsMigrationBy was_one (state_of window) (state_of after) answer
  pub leaves : MigrationLeaves (state_of window) (state_of after)
  pub follows : ComesAfter window after
  pub covers : CoversDevice window after

-- and all that waited there was asked of the file, in order, and carried out
pub record IsMigratedOn (first : FirstSectors) (device : List ℕ) (old new : Told) (was_one : Bool)
    : Type 0 where
  pub after : Window
  pub migrated : IsMigratedIn first device was_one after
  pub left : Window
  pub carried : IsCarriedOut true old new after left
  pub none_left : left.outbox ≡ []

-- or the file refused a call on the way there
pub record IsMigratedInPart (first : FirstSectors) (device : List ℕ) (old new : Told)
    (refusal : Refusal) : Type 0 where
  pub was_one : Bool
  pub after : Window
  pub migrated : IsMigratedIn first device was_one after
  pub left : Window
  pub carried : IsCarriedOut false old new after left
  pub fault : FileFault
  pub refused_is : refusal ≡ refused.File fault

-- The image has a fault: the file is asked for nothing. Where it has a super, and the file all of
-- its sectors, the fault is that of no call.
pub record HasFault (first : FirstSectors) (device : List ℕ) (old new : Told) (refusal : Refusal)
    : Type 0 where
  pub window : Window
  pub over : IsWindowOver first device (migration_room first.sizes) window
  pub after : Window
  pub fault : StartFault
  pub cause : IsMigrationRefusal (state_of window) (state_of after) fault
  pub follows : ComesAfter window after
  pub by_image : (sizes : Super) → HaveImage first sizes → ¬ IsDeviceFault fault
  pub refused_is : refusal ≡ refused.Image fault
  pub unasked : new ≡ old

-- why an image in a file was not migrated
abbrev pub IsNotMigratedOn : FirstSectors → List ℕ → Told → Told → Refusal → Type 0
IsNotMigratedOn first device old new refusal = ((refusal ≡ refused.NoMemory) × (new ≡ old))
    ⊎ (HasFault first device old new refusal ⊎ IsMigratedInPart first device old new refusal)

-- Of a file of `size` sectors: what its reads gave, and what the device holds behind its first
-- sectors, whatever that is. What it was asked then, and now.
module _ (holds : ℕ → List ℕ → Type 0) (size : ℕ) (device : List ℕ) (old new : Told) where
  -- its first sectors were read, and its image was brought to format 2
  abbrev pub IsMigratedOf : Bool → Type 0
  IsMigratedOf was_one = WithFirst holds size (λ first. IsMigratedOn first device old new was_one)

  -- they were not read, and it was asked for nothing; or its image was not brought there
  abbrev pub IsNotMigratedOf : (ℕ → ℕ → Type 0) → Refusal → Type 0
  IsNotMigratedOf refuses refusal = (HasNoFirst refuses size refusal × (new ≡ old))
      ⊎ WithFirst holds size (λ first. IsNotMigratedOn first device old new refusal)
