-- Calls that a file is asked in runs: by one call of it as many neighbouring sectors as there are.
use Rattle.std.specs.Prelude.{◌≡◌, ◌≢◌, ◌⊎◌, ◌<◌, ◌≤◌, ℕ, zero, suc, ◌+◌, List, [], ◌∷◌, ◌++◌}
use Rattle.std.specs.Prelude.{length, Bool, true, false, Result, IfErr, is_ok}
use Rattle.window.specs.declared.call.DeviceCall.{DeviceCall}
use Rattle.window.specs.declared.call.DeviceCall.TheVariants.{Write, Flush}
use Rattle.device_file.specs.Asked.{Told, answered, writes_of}
use Rattle.device_file.specs.declared.fault.FileCall.TheVariants as call
use Rattle.device_file.specs.declared.fault.FileFault.{FileFault}

-- a run of these blocks is full, or this sector is not the one behind them
abbrev pub IsNoMore : ℕ → List (List ℕ) → ℕ → Type 0
IsNoMore first blocks sector = (256 ≤ length blocks) ⊎ (sector ≢ first + length blocks)

-- a write to this sector comes first
abbrev pub IsNext : ℕ → List DeviceCall → Type 0
IsNext sector [] = ⊥
IsNext sector (Write w ∷ calls) = w.sector ≡ sector
IsNext sector (Flush ∷ calls) = ⊥

-- No block more may go with these, of sectors from this one on: 256 are the most, or the call that
-- comes behind them is no write to the next sector.
pub record IsLongest (first : ℕ) (blocks : List (List ℕ)) (behind : List DeviceCall) : Type 0 where
  pub most : length blocks ≤ 256
  pub ends : (256 ≤ length blocks) ⊎ ¬ IsNext (first + length blocks) behind

-- they are writes to neighbouring sectors, one at least, and no more of those behind them may go
-- with them
pub record IsLongestRun (calls behind : List DeviceCall) : Type 0 where
  pub first : ℕ
  pub blocks : List (List ℕ)
  pub calls_are : calls ≡ writes_of first blocks
  pub some : 0 < length blocks
  pub longest : IsLongest first blocks behind

-- Of calls that waited one call of a file was asked for the first: a flush, or the longest run.
pub record AsksRun {D : Type 0} (at_once : D → List DeviceCall → D → Type 0) (was is : D)
    (waited waits : List DeviceCall) : Type 0 where
  pub part : List DeviceCall
  pub parts : waited ≡ part ++ waits
  pub run : (part ≡ Flush ∷ []) ⊎ IsLongestRun part waits
  pub once : at_once was part is

-- by this many calls of the file, one behind the other and no others
abbrev pub AsksRuns : {D : Type 0} → (D → List DeviceCall → D → Type 0) → ℕ → D → D
    → List DeviceCall → List DeviceCall → Type 0
AsksRuns at_once zero was is waited waits = (is ≡ was) × (waits ≡ waited)
AsksRuns {D = D} at_once (suc count) was is waited waits = (then : D) × (left : List DeviceCall)
    × AsksRuns at_once count was then waited left × AsksRun at_once then is left waits

-- by some calls, each a flush or the longest run that it could be
abbrev pub AsksInRuns : {D : Type 0} → (D → List DeviceCall → D → Type 0) → D → D
    → List DeviceCall → List DeviceCall → Type 0
AsksInRuns at_once was is waited waits = (count : ℕ) × AsksRuns at_once count was is waited waits

-- A file was to take these calls behind those that waited. In runs, whatever comes behind them, it
-- was asked for a first part, and the others are left: they wait, where it refused none. Where it
-- did, that was the last of the part. It is as large as before.
pub record Takes {D : Type 0} (told : D → Told) (at_once : D → List DeviceCall → D → Type 0)
    (sectors : D → ℕ) (calls : List DeviceCall) (was is : D) (waited waits : List DeviceCall)
    (good : Bool) : Type 0 where
  pub part : List DeviceCall
  pub left : List DeviceCall
  pub parts : waited ++ calls ≡ part ++ left
  pub told_is : told is ≡ answered good part (told was)
  pub all : good ≡ true → left ≡ waits
  pub some : good ≡ false → 0 < length part
  pub runs : (behind : List DeviceCall)
      → AsksInRuns at_once was is ((waited ++ calls) ++ behind) (left ++ behind)
  pub size : sectors is ≡ sectors was

-- so, where a refusal names a write
pub record Puts {D : Type 0} (told : D → Told) (at_once : D → List DeviceCall → D → Type 0)
    (sectors : D → ℕ) (calls : List DeviceCall) (was is : D) (waited waits : List DeviceCall)
    (result : Result (Unit {0}) FileFault) : Type 0 where
  pub takes : Takes told at_once sectors calls was is waited waits (is_ok result)
  pub named : IfErr result (λ fault. fault.call ≡ call.Write)

-- it was asked for some calls in runs, and for no others
pub record IsAskedInRuns {D : Type 0} (told : D → Told) (at_once : D → List DeviceCall → D → Type 0)
    (was is : D) : Type 0 where
  pub calls : List DeviceCall
  pub asked : (told is).asked ≡ (told was).asked ++ calls
  pub runs : AsksInRuns at_once was is calls []
