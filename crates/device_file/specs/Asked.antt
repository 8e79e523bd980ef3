-- What a file was asked to carry out.
use Rattle.std.specs.Prelude.{◌≡◌, ◌⊎◌, ℕ, ◌+◌, Bool, List, [], ◌∷◌, ◌++◌, length, if◌then◌else◌}
use Rattle.std.specs.Prelude.{◌<◌, true, false, Result, IfErr, is_ok}
use Rattle.medium.specs.declared.file_call.Access.{Access}
use Rattle.window.specs.declared.call.DeviceCall.{DeviceCall}
use Rattle.window.specs.declared.call.DeviceCall.TheVariants.{Write}
use Rattle.device_file.specs.declared.fault.FileCall.{FileCall}
use Rattle.device_file.specs.declared.fault.FileFault.{FileFault}

-- at which path a file was opened, by its bytes, and for what
pub record Opening : Type 0 where
  pub path : List ℕ
  pub access : Access

pub record Told : Type 0 where
  pub opening : Opening
  -- what it was asked to carry out since it was opened, in order, good or refused
  pub asked : List DeviceCall
  -- how many times it refused
  pub refusals : ℕ

-- a file that was just opened so was asked nothing
abbrev pub begun : List ℕ → Access → Told
begun path access =
    record { opening = record { path = path; access = access }; asked = []; refusals = 0 }

-- it was asked for these calls, behind all that it was asked before
abbrev pub asked_for : List DeviceCall → Told → Told
asked_for calls t = record t { asked = t.asked ++ calls }

abbrev pub refused : Told → Told
refused t = record t { refusals = t.refusals + 1 }

-- it was asked for them at once, and carried them out or refused
abbrev pub answered : Bool → List DeviceCall → Told → Told
answered good calls t = if good then asked_for calls t else refused (asked_for calls t)

-- A file was asked for these calls at once; a refusal names a call of this kind. It is as large as
-- before.
pub record AsksFor {D : Type 0} (told : D → Told) (sectors : D → ℕ) (calls : List DeviceCall)
    (kind : FileCall) (old new : D) (result : Result (Unit {0}) FileFault) : Type 0 where
  pub asked : told new ≡ answered (is_ok result) calls (told old)
  pub size : sectors new ≡ sectors old
  pub named : IfErr result (λ fault. fault.call ≡ kind)

-- All of these calls were asked for, in order, and carried out; or a first part, of which the last
-- was refused.
pub record AsksInOrder (calls : List DeviceCall) (good : Bool) (old new : Told) : Type 0 where
  pub part : List DeviceCall
  pub rest : List DeviceCall
  pub parts : calls ≡ part ++ rest
  pub told_is : new ≡ answered good part old
  pub all : good ≡ true → rest ≡ []
  pub some : good ≡ false → 0 < length part

-- the writes of these blocks to neighbouring sectors, from this one on
abbrev pub writes_of : ℕ → List (List ℕ) → List DeviceCall
writes_of first [] = []
writes_of first (block ∷ blocks) =
    Write (record { sector = first; block = block }) ∷ writes_of (first + 1) blocks

-- a block of this sector behind these is a run of neighbours that begins here
abbrev pub GoesOn : ℕ → List (List ℕ) → ℕ → ℕ → Type 0
GoesOn first blocks sector begins = ((blocks ≡ []) × (begins ≡ sector))
    ⊎ ((begins ≡ first) × (sector ≡ first + length blocks))
