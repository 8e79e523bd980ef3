-- Calls of the work on an image, one after the other, and what a loss of power leaves.
use Rattle.std.specs.Prelude.{◌≡◌, ◌⊎◌, ◌≤◌, ℕ, Bool, List, [], ◌∷◌, length, replicate, None}
use Rattle.std.specs.Prelude.{Result}
use Rattle.medium.specs.{Medium.Image, Moments.EachCut}
use Rattle.logical_blocks.specs.Blocks.{Array}
use Rattle.journal.specs.{Places.Shape, Record.home_of, Standing.IsOurs}
use Rattle.recovery.specs.{Calls.IsMidway, Recovered.{IsOursForSome, IsOursInEither, StandsForSome}}
use Rattle.window.specs.{Window.{Window, mirror_of}, OutboxMedium.sent, Device.{durable, after}}
use Rattle.window.specs.{declared.ask.DeviceAsk.DeviceAsk}
use Rattle.window.specs.{declared.done_fault.DoneFault.DoneFault}
use Rattle.image_calls.specs.Formats.{BeginsFormat, BeginsLog, IsMaking}
use Rattle.image_calls.specs.Images.{IsMigratedOn, IsFinished}
use Rattle.image_calls.specs.Machines.{Machine, Asks, Hears, MayLeave, Begins, GoesOn, carried}
use Rattle.image_calls.specs.{Machines.state_of, Parts.{IsMadeAnew, IsLaidAnew}}
use Rattle.image_calls.specs.declared.plan.{Aim.Aim}
use Rattle.window.specs.Window as window
use Rattle.window.specs.declared.ask.DeviceAsk.TheVariants as ask
use Rattle.image_calls.specs.declared.image_asked.ImageAsked.TheVariants as asked
use Rattle.image_calls.specs.declared.state.ImageState.TheVariants as state

-- a call, with what it is given
pub data Call : Type 0 where
  next : List ℕ → Call
  done : Bool → Call

-- the call is made, as its contract says
abbrev pub IsMade : Call → Machine → Machine → Type 0
IsMade (next room) old new = (what : DeviceAsk) × (filled : List ℕ)
    × Asks old room what new filled × GoesOn old new
IsMade (done ok) old new = (result : Result (Unit {0}) DoneFault)
    × Hears old ok result new × GoesOn old new

abbrev pub AreMade : List Call → Machine → Machine → Type 0
AreMade [] old new = new ≡ old
AreMade (call ∷ calls) old new = (mid : Machine) × IsMade call old mid × AreMade calls mid new

-- An image for this array is made on the device: a cut leaves what was there before, no super, or
-- the new image, whole; and where it is done, the new image alone.
pub record LeavesImage (shape : Shape) (array : Array) (first : Window) (s : Machine)
    : Type 0 where
  pub midway : (image : Image) → MayLeave s image
      → IsMidway shape array (window.state_of first) image
  pub done : state_of s ≡ state.Done → (image : Image) → MayLeave s image
      → IsOurs (window.state_of first).size shape image array 2

-- The image on the device is migrated: where it was ours, a cut leaves it, or the new one, for the
-- same array; and where it is done, what the work that was begun came to.
pub record LeavesMigrated (first begun : Window) (s : Machine) : Type 0 where
  pub midway : EachCut (IsOursForSome (window.state_of first).size) (window.state_of first)
      → (image : Image) → MayLeave s image
      → StandsForSome IsOursInEither (window.state_of first) image
  pub done : state_of s ≡ state.Done → (image : Image) → MayLeave s image
      → (x : ℕ) → image x ≡ (window.state_of begun).content x

-- an image is under way, or made, or all that was to do was made at once
abbrev pub HasWork : Machine → Type 0
HasWork s = ((what : Aim) × (shape : Shape) × (first : Window) × IsMaking what shape first s.work)
    ⊎ (s.work.left ≡ None)

-- Whatever calls come, in any order. A format that is done has sent as many calls as the image has
-- sectors, and seven more; a log that is laid, five more than there are sectors before home.
pub record LeavesThroughout : Type 0 where
  pub formats : (shape : Shape) (first : Window) (calls : List Call) (old new : Machine)
      → Begins (BeginsFormat shape first) first old → AreMade calls old new
      → LeavesImage shape (λ b. replicate 512 0) first new
      × (state_of new ≡ state.Done → IsMadeAnew shape (window.state_of first)
      (window.state_of new.work.medium))
  pub logs : (shape : Shape) (first : Window) (calls : List Call) (old new : Machine)
      → Begins (BeginsLog shape first) first old → AreMade calls old new
      → LeavesImage shape (home_of shape (window.state_of first).content) first new
      × (state_of new ≡ state.Done → IsLaidAnew shape (window.state_of first)
      (window.state_of new.work.medium))
  pub migrations : (first : Window) (calls : List Call) (old new : Machine)
      → Begins (IsFinished (IsMigratedOn first)) first old → AreMade calls old new
      → LeavesMigrated first old.work.medium new
  -- work that is done has been told done by the device, each call that it ever made
  pub all : (s : Machine) → state_of s ≡ state.Done
      → carried s ≡ length (sent (window.mirror_of s.work.medium))
  -- a free device is told nothing only where all is done
  pub ends : (old new : Machine) (room filled : List ℕ) → old.asked ≡ asked.Nothing
      → HasWork old → Asks old room ask.Nothing new filled → state_of new ≡ state.Done

-- a device that carries out all that the work asked for leaves what it holds
abbrev pub LeavesAll : Type 0
LeavesAll = (s : Machine) → let calls = sent (mirror_of s.work.medium) in
    carried s ≤ length calls
    → MayLeave s (after (durable s.work.medium.seen.told.opening) calls).content
