-- How the work on an image begins behind the reading of the first sectors, and why it does not.
use Rattle.std.specs.Prelude.{◌≡◌, ◌⊎◌, ℕ, List, Result, Ok, Err, MatchResult}
use Rattle.recovery.specs.declared.start_fault.StartFault.{StartFault}
use Rattle.recovery.specs.declared.start_fault.StartFault.TheVariants as start
use Rattle.image_calls.specs.Formats as formats
use Rattle.image_calls.specs.Machines as images
use Rattle.image_calls.specs.Plans.{Migrates, IsPlanFault, shape_by, medium_by}
use Rattle.image_calls.specs.declared.work.Work.{Work}
use Rattle.image_calls.specs.declared.image_fault.ImageFault.{ImageFault}
use Rattle.image_calls.specs.declared.image_fault.ImageFault.TheVariants as fault
use Rattle.image_calls.specs.declared.image_plan.ImagePlan.{ImagePlan}
use Rattle.journal.specs.Places.{Shape}
use Rattle.window.specs.Window.{Window}
use Rattle.image_calls.specs.Reading.{Reading, IsWhole}
use Rattle.image_calls.specs.declared.read_end.ReadEnd.{ReadEnd}
use Rattle.image_calls.specs.declared.read_end.ReadEnd.TheVariants as end
use Rattle.calls.specs.Handles.{Held}
use Rattle.calls.specs.declared.held.ImageWork.{ImageWork}
use Rattle.calls.specs.declared.held.ImageWork.TheVariants as work
use Rattle.calls.specs.declared.held.Held.TheVariants as held

-- why there is none: of first sectors that are none BAD_SUPER; sizes were asked for before
abbrev pub fault_of_image : ImageFault → StartFault
fault_of_image fault.Length = start.BadSuper
fault_of_image fault.Sizes = start.BadSize
fault_of_image (fault.Start why) = why

abbrev pub IsImage : Result images.Machine ImageFault → Held → Type 0
IsImage (Ok s) new = new ≡ held.Image s
IsImage (Err why) new = new ≡ held.NoWork (fault_of_image why)

-- by a plan
abbrev pub BeginsBy : (Shape → Window → Work → Type 0) → List ℕ → ImagePlan → Reading → Held
    → Type 0
BeginsBy Is content plan o new = let first : Window = medium_by o.near content plan in
    (result : Result images.Machine ImageFault) × IsImage result new
    × MatchResult result (images.Begins (Is (shape_by plan) first) first)
    (IsPlanFault o.near plan)

abbrev pub BeginsFormat : List ℕ → ImagePlan → Reading → Held → Type 0
BeginsFormat content plan o new = BeginsBy formats.BeginsFormat content plan o new

abbrev pub BeginsLog : List ℕ → ImagePlan → Reading → Held → Type 0
BeginsLog content plan o new = BeginsBy formats.BeginsLog content plan o new

abbrev pub BeginsMigration : List ℕ → Reading → Held → Type 0
BeginsMigration content o new = (result : Result images.Machine ImageFault) × IsImage result new
    × Migrates o.near o.sectors content result

-- what was started begins
abbrev pub BeginsAs : List ℕ → ImageWork → Reading → Held → Type 0
BeginsAs content (work.Format plan) o new = BeginsFormat content plan o new
BeginsAs content (work.LayLog plan) o new = BeginsLog content plan o new
BeginsAs content work.Migration o new = BeginsMigration content o new

-- where all is read, it begins
abbrev pub GoesOn : List ℕ → ImageWork → Reading → Held → Type 0
GoesOn content what o new = (IsWhole o × BeginsAs content what o new)
    ⊎ ((¬ IsWhole o) × (new ≡ held.Opening o what))

-- A read of the first sectors has ended so. Where the device refused it, or there was no memory for
-- its bytes, nothing is there.
abbrev pub EndsSo : List ℕ → ImageWork → Reading → ReadEnd → Held → Type 0
EndsSo content what o end.Taken new = GoesOn content what o new
EndsSo content what o end.Refused new = new ≡ held.NoWork start.Read
EndsSo content what o end.NoMemory new = new ≡ held.NoWork start.NoMemory
