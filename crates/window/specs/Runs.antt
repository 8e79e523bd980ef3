-- What a device is to do for what waits first: a run of writes leaves the outbox together.
use Rattle.std.specs.Prelude.{◌≡◌, ◌⊎◌, ℕ, zero, suc, ◌+◌, ◌/◌, ◌≤◌, List, [], ◌∷◌, ◌++◌}
use Rattle.std.specs.Prelude.{length, take, drop, Option, Some, None}
use Rattle.medium.specs.Writes.{sector_of}
use Rattle.window.specs.OutboxMedium.{first_of}
use Rattle.window.specs.declared.ask.DeviceAsk.{DeviceAsk}
use Rattle.window.specs.declared.ask.DeviceAsk.TheVariants as ask
use Rattle.window.specs.declared.call.DeviceCall.{DeviceCall}
use Rattle.window.specs.declared.call.DeviceCall.TheVariants.{Write, Flush}

-- the call that waits first is a write to this sector
abbrev pub IsTo : ℕ → Option DeviceCall → Type 0
IsTo sector (Some (Write w)) = w.sector ≡ sector
IsTo sector (Some Flush) = ⊥
IsTo sector None = ⊥

-- writes of this many blocks of these bytes, in order, to the sectors from this one on
abbrev pub writes_of : ℕ → ℕ → List ℕ → List DeviceCall
writes_of zero sector bytes = []
writes_of (suc count) sector bytes = writes_of count sector bytes
    ++ Write (record { sector = sector + count; block = sector_of bytes count }) ∷ []

-- The call that waits first is a write to this sector, and so many of those that wait are writes to
-- neighbouring sectors from there on: their bytes lie at the front of the room, one behind the
-- other, and the others in it stay. They are all for which it has room: it is full, or what waits
-- next is no write to the next sector.
pub record CopiesRun (waits : List DeviceCall) (sector count : ℕ) (room filled : List ℕ)
    : Type 0 where
  pub begins : IsTo sector (first_of waits)
  pub writes : take count waits ≡ writes_of count sector filled
  pub behind : (i : ℕ) → count ≤ i → sector_of filled i ≡ sector_of room i
  pub most : count ≤ length room / 512
  pub ends : (count ≡ length room / 512) ⊎ ¬ IsTo (sector + count) (first_of (drop count waits))

-- what a device is to do for these: nothing where none waits, a flush, or the longest run of writes
abbrev pub AsksFirst : List DeviceCall → List ℕ → DeviceAsk → List ℕ → Type 0
AsksFirst waits room ask.Nothing filled = (waits ≡ []) × (filled ≡ room)
AsksFirst waits room (ask.Write first count) filled = CopiesRun waits first count room filled
AsksFirst waits room ask.Flush filled = (first_of waits ≡ Some Flush) × (filled ≡ room)
AsksFirst waits room (ask.Read read) filled = ⊥
