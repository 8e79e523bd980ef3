-- How an image is begun by a plan.
use Rattle.std.specs.Prelude.{◌≡◌, ◌≢◌, ◌⊎◌, ℕ, Option, Some, None}
use Rattle.journal.specs.declared.log_format.LogFormat.{LogFormat}
use Rattle.journal.specs.Sectors.{version_of}
use Rattle.recovery.specs.Calls.{AreSizes}
use Rattle.image_calls.specs.Plans.{shape_by}
use Rattle.image_calls.specs.declared.image_plan.ImagePlan.{ImagePlan}
use Rattle.image_calls.specs.declared.reach.Reach.TheVariants as reach
use Rattle.disk_machine.specs.Codes.{STARTED, BAD_SIZES}
use Rattle.calls.specs.Handles.{Held}
use Rattle.calls.specs.Starting.{Opens}
use Rattle.calls.specs.declared.held.ImageWork.{ImageWork}
use Rattle.calls.specs.declared.held.ImageWork.TheVariants as work
use Rattle.calls.specs.declared.options.UsbDiskPlan.{UsbDiskPlan}

-- the plan of C, in this format
abbrev pub plan_in : LogFormat → UsbDiskPlan → ImagePlan
plan_in format plan = record {
  sectors = plan.sectors;
  format = format;
  blocks = plan.blocks;
  slots = plan.slots;
  home = plan.home;
}

-- the sizes are in their limits, home begins where it may, and the device is long enough for them
abbrev pub Fits : ImagePlan → Type 0
Fits plan = AreSizes plan.sectors (shape_by plan)

-- it is a plan of C that fits, in one of the two formats
abbrev pub IsPlan : UsbDiskPlan → ImagePlan → Type 0
IsPlan given plan = (given.format ≡ version_of plan.format) × (plan ≡ plan_in plan.format given)
    × Fits plan

-- no plan of C fits
abbrev pub IsNoPlan : UsbDiskPlan → Type 0
IsNoPlan given = ((given.format ≢ 1) × (given.format ≢ 2))
    ⊎ ((format : LogFormat) × (given.format ≡ version_of format) × (¬ Fits (plan_in format given)))

-- What is there stays. Sizes that do not fit are told before anything is done. Else sector 0 is to
-- be read.
abbrev pub StartsBy : (ImagePlan → ImageWork) → UsbDiskPlan → Option Held → Option Held → ℕ → Type 0
StartsBy What given (Some old) new code = (code ≡ STARTED) × (new ≡ Some old)
StartsBy What given None new code = (IsNoPlan given × (code ≡ BAD_SIZES) × (new ≡ None))
    ⊎ ((plan : ImagePlan) × IsPlan given plan
    × Opens (What plan) given.sectors reach.First None new code)

abbrev pub Formats : UsbDiskPlan → Option Held → Option Held → ℕ → Type 0
Formats given old new code = StartsBy work.Format given old new code

abbrev pub LaysLog : UsbDiskPlan → Option Held → Option Held → ℕ → Type 0
LaysLog given old new code = StartsBy work.LayLog given old new code

-- a migration, of which the plan tells the sectors alone
abbrev pub Migrates : UsbDiskPlan → Option Held → Option Held → ℕ → Type 0
Migrates given (Some old) new code = (code ≡ STARTED) × (new ≡ Some old)
Migrates given None new code = Opens work.Migration given.sectors reach.Near None new code
