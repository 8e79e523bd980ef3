-- A window and the file behind it.
use Rattle.std.specs.Prelude.{◌≡◌, ℕ, Bool, true, false, List, [], Option, Some, None, IfSome}
use Rattle.medium.specs.Medium.{State}
use Rattle.window.specs.Window as window
use Rattle.window.specs.{Window.{Window, ComesAfter, IsShown}, declared.call.DeviceCall.DeviceCall}
use Rattle.device_file.specs.{Asked.Told, InRuns.AsksInRuns, Outbox.{IsCarriedOut, EndIn}}
use Rattle.device_file.specs.{declared.fault.FileFault.FileFault}
use Rattle.usbdisk.specs.declared.live.file.FileWindow.{FileWindow}

-- content, sets and moments are those of the window
abbrev pub state_of : {D : Type 0} → FileWindow D → State
state_of m = window.state_of m.window

-- no call was refused
abbrev pub is_well : Option FileFault → Bool
is_well None = true
is_well (Some fault) = false

module _ {D : Type 0} where
  -- this window over this file, of which no call was refused
  pub record IsOver (w : Window) (file : D) (m : FileWindow D) : Type 0 where
    pub window_is : m.window ≡ w
    pub file_is : m.file ≡ file
    pub well : m.fault ≡ None

  -- calls of a medium were made, and the file was asked nothing
  pub record GoesOn (old new : FileWindow D) : Type 0 where
    pub follows : ComesAfter old.window new.window
    pub file_stays : new.file ≡ old.file
    pub fault_stays : new.fault ≡ old.fault

  -- sectors were shown to the window, and taken or not
  pub record Shows (first : ℕ) (bytes : List ℕ) (taken : Bool) (old new : FileWindow D) : Type 0
    where
      pub shown : IsShown first bytes taken old.window new.window
      pub file_stays : new.file ≡ old.file
      pub fault_stays : new.fault ≡ old.fault

  -- The file was asked for exactly what waited, in order, and carried it out; or for a first part
  -- of it, of which it refused the last call, and the others wait still.
  pub record Carries (told : D → Told) (at_once : D → List DeviceCall → D → Type 0)
      (old new : FileWindow D) : Type 0 where
    pub carried : IsCarriedOut (is_well new.fault) (told old.file) (told new.file)
        old.window new.window
    pub all : new.fault ≡ None → new.window.outbox ≡ []
    -- a fault is of that call: it names a write or a synchronising, as that was one
    pub named : IfSome new.fault (λ fault. EndIn carried.part fault.call)
    -- by one call of the file for each flush and for each longest run of neighbouring sectors
    pub runs : AsksInRuns at_once old.file new.file old.window.outbox new.window.outbox
