-- An outbox of which a first part was taken out.
use Rattle.std.specs.Prelude.{◌≡◌, ℕ, ◌+◌, Bool, List, [], ◌∷◌, ◌++◌, if◌then◌else◌}
use Rattle.std.specs.Prelude.{Result, OnOk, IfErr, is_ok, length, ◌<◌}
use Rattle.window.specs.Story.{Told}
use Rattle.window.specs.declared.call.DeviceCall.{DeviceCall}
use Rattle.window.specs.declared.call.DeviceCall.TheVariants.{Write, Flush}
use Rattle.window.specs.Window.{Window}
use Rattle.device_file.specs.Asked as file
use Rattle.device_file.specs.declared.fault.FileCall.{FileCall}
use Rattle.device_file.specs.declared.fault.FileCall.TheVariants as call
use Rattle.device_file.specs.declared.fault.FileFault.{FileFault}

abbrev pub with_taken : List DeviceCall → Told → Told
with_taken part t = record t { taken = t.taken ++ part }

-- these calls were taken out of what waits, and this is left
abbrev pub taken_out : List DeviceCall → List DeviceCall → Window → Window
taken_out part left w =
    record w { seen = record w.seen { told = with_taken part w.seen.told }; outbox = left }

-- these calls, the first of those that waited, were taken out in order, and nothing else changed
pub record LetsGo (part : List DeviceCall) (old new : Window) : Type 0 where
  pub waited : old.outbox ≡ part ++ new.outbox
  pub is : new ≡ taken_out part new.outbox old

-- A file was asked for exactly the calls that were taken out, in order: all that waited, and it
-- carried them out; or a first part, of which it refused the last that it was asked for, and the
-- others wait still.
pub record IsCarriedOut (good : Bool) (was is : file.Told) (old new : Window) : Type 0 where
  pub part : List DeviceCall
  pub lets_go : LetsGo part old new
  pub asked : is.asked ≡ was.asked ++ part
  pub refusals : is.refusals ≡ (if good then was.refusals else was.refusals + 1)
  pub opening_stays : is.opening ≡ was.opening

-- the call of a file that carries this one out
abbrev pub kind_of : DeviceCall → FileCall
kind_of (Write w) = call.Write
kind_of Flush = call.Sync

-- the last of these calls is carried out by such a call of a file
abbrev pub EndIn : List DeviceCall → FileCall → Type 0
EndIn calls kind = (before : List DeviceCall) × (last : DeviceCall)
    × (calls ≡ before ++ last ∷ []) × (kind ≡ kind_of last)

-- A file was to carry out all that waits. It is as large as before, and a fault is of the last call
-- that was taken out.
pub record CarriesOut {D : Type 0} (told : D → file.Told) (sectors : D → ℕ) (was is : D)
    (old new : Window) (result : Result (Unit {0}) FileFault) : Type 0 where
  pub carried : IsCarriedOut (is_ok result) (told was) (told is) old new
  pub all : OnOk result (new.outbox ≡ [])
  pub size : sectors is ≡ sectors was
  pub named : IfErr result (λ fault. EndIn carried.part fault.call)

-- A file was to carry out calls that wait first, in order: one at least where it refused none. It
-- is as large as before, and a fault is of the last of them.
pub record CarriesSome {D : Type 0} (told : D → file.Told) (sectors : D → ℕ) (was is : D)
    (old new : Window) (result : Result (Unit {0}) FileFault) : Type 0 where
  pub carried : IsCarriedOut (is_ok result) (told was) (told is) old new
  pub fewer : OnOk result (length new.outbox < length old.outbox)
  pub size : sectors is ≡ sectors was
  pub named : IfErr result (λ fault. EndIn carried.part fault.call)

-- a write waits first
abbrev pub Begins : List DeviceCall → Type 0
Begins [] = ⊥
Begins (Write w ∷ calls) = Unit {0}
Begins (Flush ∷ calls) = ⊥
