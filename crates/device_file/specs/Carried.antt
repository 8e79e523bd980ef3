-- The calls of the file behind that carried out what a file of sectors was asked.
use Rattle.std.specs.Prelude.{◌≡◌, ◌⊎◌, ℕ, ◌*◌, List, [], ◌∷◌, ◌++◌, length, All, Option, IfSome}
use Rattle.std.specs.List.{flat_map}
use Rattle.medium.specs.FileStory as file
use Rattle.medium.specs.FileStory.{IsWriteWithin}
use Rattle.medium.specs.declared.file_call.Access.{Access}
use Rattle.medium.specs.declared.file_call.FileCall.{FileCall}
use Rattle.medium.specs.declared.file_call.FileCall.TheVariants.{Open, Lock, Measure, Resize, Sync}
use Rattle.window.specs.declared.call.DeviceCall.{DeviceCall}
use Rattle.window.specs.declared.call.DeviceCall.TheVariants.{Flush}
use Rattle.device_file.specs.Asked.{Told, writes_of}
use Rattle.device_file.specs.FileValue.{FileValue}

-- It was opened for this, locked, and only then measured, or emptied and given a length.
abbrev pub IsOpening : Access → List FileCall → Type 0
IsOpening access calls = (calls ≡ Open access ∷ Lock ∷ Measure ∷ [])
    ⊎ ((bytes : ℕ) × (calls ≡ Open access ∷ Lock ∷ Resize 0 ∷ Resize bytes ∷ []))

-- what it was asked at once, and the calls that were made for that
pub record Part : Type 0 where
  pub asked : List DeviceCall
  pub calls : List FileCall

-- writes of neighbouring sectors, and writes that begin within their places alone
pub record IsWriting (part : Part) : Type 0 where
  pub first : ℕ
  pub blocks : List (List ℕ)
  pub asked_is : part.asked ≡ writes_of first blocks
  pub within : All (IsWriteWithin (512 * first) (length (flat_map (λ block. block) blocks)))
      part.calls

-- a flush, and one synchronising
pub record IsSyncing (part : Part) : Type 0 where
  pub asked_is : part.asked ≡ Flush ∷ []
  pub calls_are : part.calls ≡ Sync ∷ []

abbrev pub IsPart : Part → Type 0
IsPart part = IsWriting part ⊎ IsSyncing part

-- the file behind was asked for what carries out these calls as one part, and for nothing else
pub record AsksPart (calls : List DeviceCall) (old new : file.Told) : Type 0 where
  pub part : Part
  pub is : IsPart part
  pub asked_is : part.asked ≡ calls
  pub calls_are : new.asked ≡ old.asked ++ part.calls
  pub looks_stay : new.looks ≡ old.looks

-- what a file of the system was asked
abbrev pub told_of : FileValue → Told
told_of v = v.told

-- by which calls of the file behind it was asked these at once
abbrev pub at_once_of : FileValue → List DeviceCall → FileValue → Type 0
at_once_of old calls new = AsksPart calls old.file new.file

abbrev pub asked_in : List Part → List DeviceCall
asked_in [] = []
asked_in (part ∷ parts) = part.asked ++ asked_in parts

abbrev pub calls_in : List Part → List FileCall
calls_in [] = []
calls_in (part ∷ parts) = part.calls ++ calls_in parts

-- The file behind was opened and locked so; then, part by part and in order, it was asked for what
-- carries out what was asked, and for nothing else.
pub record IsCarried (t : Told) (f : file.Told) : Type 0 where
  pub opened : List FileCall
  pub opens : IsOpening t.opening.access opened
  pub parts : List Part
  pub each : All IsPart parts
  pub asked : t.asked ≡ asked_in parts
  pub calls : f.asked ≡ opened ++ calls_in parts

-- of a file of the system that comes back, this is so
abbrev pub AreCalls : Option FileValue → Type 0
AreCalls back = IfSome back (λ v. IsCarried v.told v.file)
