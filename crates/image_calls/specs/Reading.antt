-- The first sectors of a device, as far as they are read.
use Rattle.std.specs.Prelude.{◌≡◌, ◌≢◌, ◌⊎◌, ℕ, ◌-◌, ◌*◌, ◌/◌, ◌%◌, ◌≤◌, min, Bool, true, false}
use Rattle.std.specs.Prelude.{List, [], ◌∷◌, ◌++◌, length, Result, Ok, Err}
use Rattle.medium.specs.{Writes.sector_of}
use Rattle.window.specs.{declared.ask.DeviceAsk.DeviceAsk, declared.done_fault.DoneFault.DoneFault}
use Rattle.image_calls.specs.{declared.reach.Reach.Reach, declared.read_end.ReadEnd.ReadEnd}
use Rattle.image_calls.specs.{Near.IsNear}
use Rattle.window.specs.declared.ask.DeviceAsk.TheVariants as ask
use Rattle.window.specs.declared.done_fault.DoneFault.TheVariants as fault
use Rattle.image_calls.specs.declared.reach.Reach.TheVariants as reach
use Rattle.image_calls.specs.declared.read_end.ReadEnd.TheVariants as end

-- What was read of a device of so many sectors, from sector 0 on; how many are read, as far as it
-- is known; and how many the device is reading.
pub record Reading : Type 0 where
  pub near : List ℕ
  pub sectors : ℕ
  pub reach : Reach
  pub until : ℕ
  pub asked : ℕ

-- none is read
abbrev pub unread : ℕ → Reach → Reading
unread sectors reach =
    record { near = []; sectors = sectors; reach = reach; until = min 1 sectors; asked = 0 }

-- How many sectors are read: sector 0 alone; or, where it is read and more are wanted, as many as
-- it tells. Never more than the device has.
abbrev pub IsUntil : Reach → ℕ → List ℕ → ℕ → Type 0
IsUntil reach.First sectors near until = until ≡ min 1 sectors
IsUntil reach.Near sectors [] until = until ≡ min 1 sectors
IsUntil reach.Near sectors (b ∷ bytes) until =
    (count : ℕ) × IsNear (sector_of (b ∷ bytes) 0) count × (until ≡ min count sectors)

-- how many sectors are left to read
abbrev pub left : Reading → ℕ
left s = s.until - length s.near / 512

-- What was read are whole sectors, no more than are read in all. The device reads no more than are
-- left.
pub record IsSound (s : Reading) : Type 0 where
  pub until_is : IsUntil s.reach s.sectors s.near s.until
  pub few : s.until ≤ 16384
  pub whole : length s.near % 512 ≡ 0
  pub within : length s.near / 512 ≤ s.until
  pub asked_few : s.asked ≤ left s

-- all is read
abbrev pub IsWhole : Reading → Type 0
IsWhole s = left s ≡ 0

-- The device is to read the next sectors, as many as there is room for, and 240 at most. Nothing
-- while it reads, or where all is read.
abbrev pub AsksToRead : Reading → ℕ → DeviceAsk → Reading → Type 0
AsksToRead old room ask.Nothing new = ((old.asked ≢ 0) ⊎ IsWhole old) × (new ≡ old)
AsksToRead old room (ask.Write first count) new = ⊥
AsksToRead old room ask.Flush new = ⊥
AsksToRead old room (ask.Read read) new = (old.asked ≡ 0) × (¬ IsWhole old)
    × (read.first ≡ length old.near / 512) × (read.count ≡ min room (min (left old) 240))
    × (new ≡ record old { asked = read.count })

-- the device was asked for sectors, and these are as many bytes
pub record AreNext (s : Reading) (bytes : List ℕ) : Type 0 where
  pub asked : s.asked ≢ 0
  pub sized : length bytes ≡ 512 * s.asked

-- These bytes were read behind those that were read before. They may tell how many are read.
pub record Takes (old : Reading) (bytes : List ℕ) (new : Reading) : Type 0 where
  pub until_is : IsUntil old.reach old.sectors (old.near ++ bytes) new.until
  pub is : new ≡ record old { near = old.near ++ bytes; until = new.until; asked = 0 }

-- These bytes were read: they are taken; or they are the first, there was no memory for all that is
-- read, and nothing changes.
abbrev pub TakesSo : Reading → List ℕ → ReadEnd → Reading → Type 0
TakesSo old bytes end.Taken new = Takes old bytes new
TakesSo old bytes end.Refused new = ⊥
TakesSo old bytes end.NoMemory new = (old.near ≡ []) × (new ≡ old)

-- A good read has ended. Bytes of another number than those that were asked for change nothing.
abbrev pub TakesRead : Reading → List ℕ → Result ReadEnd DoneFault → Reading → Type 0
TakesRead old bytes (Ok how) new = (length bytes ≡ 512 * old.asked) × TakesSo old bytes how new
TakesRead old bytes (Err fault.NothingAsked) new = ⊥
TakesRead old bytes (Err fault.BadLength) new =
    (length bytes ≢ 512 * old.asked) × (new ≡ old)

-- what the device was asked to read last has ended, good or not
abbrev pub HasRead : Reading → Bool → List ℕ → Result ReadEnd DoneFault → Reading → Type 0
HasRead old ok bytes result new =
    ((old.asked ≡ 0) × (result ≡ Err fault.NothingAsked) × (new ≡ old))
    ⊎ ((old.asked ≢ 0) × Ends old ok bytes result new)
  where
    Ends : Reading → Bool → List ℕ → Result ReadEnd DoneFault → Reading → Type 0
    Ends old true bytes result new = TakesRead old bytes result new
    Ends old false bytes result new =
        (result ≡ Ok end.Refused) × (new ≡ record old { asked = 0 })
