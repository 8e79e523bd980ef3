-- What an image is begun on: by a plan, or by the super of the image that is there.
use Rattle.std.specs.Prelude.{◌≡◌, ◌≢◌, ◌⊎◌, ℕ, ◌≤◌, List, length, MatchResult, Result, Option}
use Rattle.std.specs.Prelude.{Some, None, zero, suc}
use Rattle.medium.specs.{Writes.sector_of}
use Rattle.journal.specs.{Places.{Shape, shape_with}, Sectors.IsSuper}
use Rattle.recovery.specs.Calls.{AreSizes, HoldsLog}
use Rattle.recovery.specs.Recovered.{IsMigrationRefusal, most_migration_sends}
use Rattle.recovery.specs.{declared.start_fault.StartFault.StartFault}
use Rattle.window.specs.Window.{Window, state_of, fresh}
use Rattle.store_calls.specs.{Starts.IsNoLength}
use Rattle.image_calls.specs.{Images.{IsMigratedOn, IsFinished}, Machines.{Machine, Begins}}
use Rattle.image_calls.specs.{Formats.most_of_part}
use Rattle.image_calls.specs.{declared.image_fault.ImageFault.ImageFault}
use Rattle.image_calls.specs.{declared.image_plan.ImagePlan.ImagePlan}
use Rattle.recovery.specs.declared.start_fault.StartFault.TheVariants as start
use Rattle.image_calls.specs.declared.image_fault.ImageFault.TheVariants as fault

-- the sector of block 0 that a plan gives, if it gives one
abbrev pub home_in : ℕ → Option ℕ
home_in zero = None
home_in (suc n) = Some (suc n)

-- what is made by the plan
abbrev pub shape_by : ImagePlan → Shape
shape_by plan = shape_with plan.format plan.blocks plan.slots (home_in plan.home)

-- the medium that the plan is carried out on: there is room for a part of it
abbrev pub medium_by : List ℕ → List ℕ → ImagePlan → Window
medium_by near holds plan = fresh plan.sectors near holds 0 most_of_part

-- why the plan is not carried out: by the lengths or the sizes, or for want of memory
abbrev pub IsPlanFault : List ℕ → ImagePlan → ImageFault → Type 0
IsPlanFault near plan fault.Length = IsNoLength near plan.sectors
IsPlanFault near plan fault.Sizes = ¬ AreSizes plan.sectors (shape_by plan)
IsPlanFault near plan (fault.Start why) = why ≡ start.NoMemory

-- there is room for what a migration sends by the super in sector 0, or for a flush where there is
-- none
abbrev pub IsRoomToMigrate : List ℕ → ℕ → Type 0
IsRoomToMigrate near room =
    ((shape : Shape) × IsSuper shape (sector_of near 0)
    × (room ≡ most_migration_sends shape.format shape.slots))
    ⊎ (((shape : Shape) → ¬ IsSuper shape (sector_of near 0)) × (room ≡ 1))

-- Why an image is not migrated. No call is refused for want of room, and where the first sectors
-- are all before home, none because they are not there.
pub record IsMigratedNever (first : Window) (why : StartFault) : Type 0 where
  pub after : Window
  pub refusal : IsMigrationRefusal (state_of first) (state_of after) why
  pub no_write : why ≢ start.Write
  pub no_flush : why ≢ start.Flush
  pub no_read : HoldsLog first.near (state_of first).size (state_of first).content
      → why ≢ start.Read

abbrev pub IsMigrateRefusal : List ℕ → ℕ → Window → ImageFault → Type 0
IsMigrateRefusal near sectors first fault.Length = IsNoLength near sectors
IsMigrateRefusal near sectors first fault.Sizes = ⊥
IsMigrateRefusal near sectors first (fault.Start why) =
    (why ≡ start.NoMemory) ⊎ IsMigratedNever first why

-- A migration begins on a medium with the room that it needs, or why not.
abbrev pub Migrates : List ℕ → ℕ → List ℕ → Result Machine ImageFault → Type 0
Migrates near sectors holds result = (room : ℕ)
    × (512 ≤ length near → IsRoomToMigrate near room)
    × (let first = fresh sectors near holds 0 room in
    MatchResult result (Begins (IsFinished (IsMigratedOn first)) first)
    (IsMigrateRefusal near sectors first))
