-- Work on an image and the device behind it, which may be behind: it carries out one call after the
-- other.
use Rattle.std.specs.Prelude.{◌≡◌, ℕ, ◌-◌, ◌<◌, ◌≤◌, Bool, true, false, List, [], ◌∷◌, length, take}
use Rattle.std.specs.Prelude.{Option, Some, None, Result, Ok, Err}
use Rattle.medium.specs.Medium.{Image, CutLeaves}
use Rattle.window.specs.{Device.{durable, after}, OutboxMedium.{first_of, sent}}
use Rattle.window.specs.{Parts.AreCarriedOut, declared.call.DeviceCall.DeviceCall}
use Rattle.window.specs.{Window.{Window, mirror_of}, declared.ask.DeviceAsk.DeviceAsk}
use Rattle.window.specs.{declared.done_fault.DoneFault.DoneFault}
use Rattle.journal.specs.{Places.Shape}
use Rattle.store_calls.specs.Outbox.{without, IsLongestRun}
use Rattle.image_calls.specs.{Formats.{IsMaking, MakesParts}, declared.work.Work.Work}
use Rattle.image_calls.specs.{declared.image_asked.ImageAsked.ImageAsked}
use Rattle.image_calls.specs.{declared.image_asked.ImageCall.ImageCall}
use Rattle.image_calls.specs.{declared.machine.ImageMachine.ImageMachine, declared.plan.Plan.Plan}
use Rattle.image_calls.specs.declared.plan.{Aim.Aim}
use Rattle.image_calls.specs.{declared.state.ImageState.ImageState}
use Rattle.window.specs.declared.call.DeviceCall.TheVariants as call
use Rattle.window.specs.Window as window
use Rattle.window.specs.declared.ask.DeviceAsk.TheVariants as ask
use Rattle.window.specs.declared.done_fault.DoneFault.TheVariants as fault
use Rattle.image_calls.specs.declared.image_asked.ImageAsked.TheVariants as asked
use Rattle.image_calls.specs.declared.image_asked.ImageCall.TheVariants as kind
use Rattle.image_calls.specs.declared.state.ImageState.TheVariants as state

-- the work, and what the device was asked for last and has not told done
abbrev pub Machine : Type 0
Machine = ImageMachine

-- over work of which the device was asked for nothing yet
abbrev pub begun : Work → Machine
begun work = record { work = work; asked = asked.Nothing }

-- ---- what the work is at

abbrev pub state_at_rest : List DeviceCall → Option Plan → ImageState
state_at_rest [] None = state.Done
state_at_rest [] (Some plan) = state.Working
state_at_rest (call ∷ calls) left = state.Working

abbrev pub state_by : ImageAsked → Work → ImageState
state_by asked.Nothing work = state_at_rest work.medium.outbox work.left
state_by (asked.Calls call count) work = state.Working
state_by (asked.Refused call count) work = state.Refused call

abbrev pub state_of : Machine → ImageState
state_of s = state_by s.asked s.work

-- ---- what the device is asked for

-- so many calls leave what waits, and the device is asked for them; nothing else changes
abbrev pub HandsOut : Work → ImageCall → ℕ → Machine → Type 0
HandsOut old call count new = new ≡ record {
  work = record old { medium = without count old.medium };
  asked = asked.Calls call count;
}

-- The next of what waits: a flush, or the longest run of writes for which the buffer has room.
abbrev pub AsksForNext : Work → List ℕ → DeviceAsk → Machine → List ℕ → Type 0
AsksForNext old room ask.Nothing new filled =
    (old.medium.outbox ≡ []) × (new ≡ begun old) × (filled ≡ room)
AsksForNext old room (ask.Write first count) new filled =
    HandsOut old kind.Write count new × (0 < count)
    × IsLongestRun old.medium new.work.medium first count room filled
AsksForNext old room ask.Flush new filled =
    HandsOut old kind.Flush 1 new × (first_of old.medium.outbox ≡ Some call.Flush)
    × (filled ≡ room)
AsksForNext old room (ask.Read sectors) new filled = ⊥

-- it is asked for nothing, and nothing changes
abbrev pub AsksForNothing : Machine → List ℕ → DeviceAsk → Machine → List ℕ → Type 0
AsksForNothing old room what new filled = (what ≡ ask.Nothing) × (new ≡ old) × (filled ≡ room)

-- Nothing, where a call is under way or was refused. Else the next of what waits, of which the next
-- part is made where nothing does.
abbrev pub AsksBy : ImageAsked → Machine → List ℕ → DeviceAsk → Machine → List ℕ → Type 0
AsksBy asked.Nothing old room what new filled =
    (mid : Work) × MakesParts old.work mid × AsksForNext mid room what new filled
AsksBy (asked.Calls call count) old room what new filled =
    AsksForNothing old room what new filled
AsksBy (asked.Refused call count) old room what new filled =
    AsksForNothing old room what new filled

abbrev pub Asks : Machine → List ℕ → DeviceAsk → Machine → List ℕ → Type 0
Asks old room what new filled = AsksBy old.asked old room what new filled

-- ---- what it tells

-- what it was asked for last has ended, good or not
abbrev pub IsDone : ImageAsked → Bool → Machine → Result (Unit {0}) DoneFault → Machine → Type 0
IsDone asked.Nothing ok old result new = (result ≡ Err fault.NothingAsked) × (new ≡ old)
IsDone (asked.Calls call count) true old result new = (result ≡ Ok tt)
    × (new ≡ record old { asked = asked.Nothing })
IsDone (asked.Calls call count) false old result new = (result ≡ Ok tt)
    × (new ≡ record old { asked = asked.Refused call count })
IsDone (asked.Refused call count) ok old result new =
    (result ≡ Err fault.NothingAsked) × (new ≡ old)

abbrev pub Hears : Machine → Bool → Result (Unit {0}) DoneFault → Machine → Type 0
Hears old ok result new = IsDone old.asked ok old result new

-- ---- what a loss of power leaves

-- how many of the calls that left what waits the device has not told done
abbrev pub under_way : ImageAsked → ℕ
under_way asked.Nothing = 0
under_way (asked.Calls call count) = count
under_way (asked.Refused call count) = count

-- how many calls it has told done, since the beginning
abbrev pub carried : Machine → ℕ
carried s = length s.work.medium.seen.told.taken - under_way s.asked

-- What a loss of power may leave of the device, wherever it is: it has carried out the calls that
-- it told done, and of the others any first part, of whose writes behind the last flush any may be
-- missing.
pub record MayLeave (s : Machine) (image : Image) : Type 0 where
  pub count : ℕ
  pub done : List DeviceCall
  pub reaches : carried s ≤ count
  pub are : AreCarriedOut (take count (sent (mirror_of s.work.medium))) done
  pub cut : CutLeaves (after (durable s.work.medium.seen.told.opening) done).may_leave image

-- it is no more than what a cut of the medium at some moment since the first one leaves
pub record LeavesSince (first : Window) (s : Machine) : Type 0 where
  pub later : (window.state_of first).calls ≤ (window.state_of s.work.medium).calls
  pub left : (image : Image) → MayLeave s image
      → (window.state_of s.work.medium).left_since (window.state_of first).calls image

-- where the device has told all done, it is what a cut of the medium leaves now
abbrev pub LeavesAtRest : Machine → Type 0
LeavesAtRest s = s.asked ≡ asked.Nothing → s.work.medium.outbox ≡ [] → (image : Image)
    → MayLeave s image → CutLeaves (window.state_of s.work.medium).may_leave image

-- ---- from call to call

-- work that was begun on the first medium, of which the device was asked for nothing yet
pub record Begins (Is : Work → Type 0) (first : Window) (s : Machine) : Type 0 where
  pub work : Is s.work
  pub asked : s.asked ≡ asked.Nothing
  pub since : LeavesSince first s
  pub rest : LeavesAtRest s

-- the device is handed what waited in this medium, and nothing else is to do
abbrev pub CarriesOut : Window → Machine → Type 0
CarriesOut first s = (s.work.left ≡ None)
    × ((count : ℕ) × (s.work.medium ≡ without count first))

-- What each call keeps.
pub record GoesOn (old new : Machine) : Type 0 where
  pub makes : (what : Aim) (shape : Shape) (first : Window) → IsMaking what shape first old.work
      → IsMaking what shape first new.work
  pub carries : (first : Window) → CarriesOut first old → CarriesOut first new
  pub since : (first : Window) → LeavesSince first old → LeavesSince first new
  pub rest : LeavesAtRest new
