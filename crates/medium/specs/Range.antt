-- Reads of neighbouring sectors that a medium makes at once.
use Rattle.std.specs.Prelude.{◌≡◌, ◌≢◌, ◌<◌, ◌≤◌, ◌+◌, ◌*◌, ◌/◌, ℕ, zero, suc, List, [], ◌++◌}
use Rattle.std.specs.Prelude.{Bool, true, false}
use Rattle.medium.specs.{Medium.{State, Image, LooksOnly}, Moments.IsQuiet}
use Rattle.medium.specs.declared.fault.MediumFault.{MediumFault, TheVariants.Read}

-- so many bytes are whole sectors of a medium of this size, from this one on
pub record AreSectors (sector bytes size : ℕ) : Type 0 where
  pub whole : bytes ≡ 512 * (bytes / 512)
  pub inside : sector + bytes / 512 ≤ size

-- what count sectors from this one on hold, one behind the other
abbrev pub held_from : Image → ℕ → ℕ → List ℕ
held_from image sector zero = []
held_from image sector (suc count) = image sector ++ held_from image (sector + 1) count

-- a sector is one of count sectors from this one on
abbrev pub IsAmong : ℕ → ℕ → ℕ → Type 0
IsAmong sector count s = (sector ≤ s) × (s < sector + count)

-- Each of these sectors is read once. No read is refused, and there is no other call.
pub record PassesReads (sector count : ℕ) (old new : State) : Type 0 where
  pub calls_are : new.calls ≡ old.calls + count
  pub made_are : new.made Read ≡ old.made Read + count
  pub others_made : (kind : MediumFault) → kind ≢ Read → new.made kind ≡ old.made kind
  pub failures_stay : new.failures ≡ old.failures
  pub refused_stay : (kind : MediumFault) → new.refused kind ≡ old.refused kind
  pub quiet : IsQuiet old new
  pub looks : LooksOnly (IsAmong sector count) old new

-- They are read so, and these bytes are what they hold; or nothing is read, and nothing changes.
pub record ReadsAtOnce {M : Type 0} (state : M → State) (Follows : M → M → Type 0) (done : Bool)
    (sector count : ℕ) (bytes : List ℕ) (old new : M) : Type 0 where
  pub none : done ≡ false → new ≡ old
  pub holds : done ≡ true → bytes ≡ held_from (state old).content sector count
  pub passes : done ≡ true → PassesReads sector count (state old) (state new)
  pub follows : done ≡ true → Follows old new
