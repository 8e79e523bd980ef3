-- Calls in memory: a ring of what is to be done, and beside it one of blocks.
use Rattle.std.specs.Prelude.{◌≡◌, ◌<◌, ◌≤◌, ℕ, ◌+◌, ◌-◌, zero, suc, List, [], ◌∷◌, ◌++◌, length}
use Rattle.std.specs.Prelude.{slice_index_or, nat_lt, if◌then◌else◌}
use Rattle.medium.specs.Writes.{sector_of}
use Rattle.window.specs.declared.call.DeviceCall.{DeviceCall}
use Rattle.window.specs.declared.call.DeviceCall.TheVariants.{Write, Flush}
use Rattle.window.specs.declared.outbox.Kind.{Kind}
use Rattle.window.specs.declared.outbox.Kind.TheVariants as kind
use Rattle.window.specs.declared.outbox.Place.{Place}

abbrev pub call_by : Kind → List ℕ → DeviceCall
call_by (kind.Write sector) block = Write (record { sector = sector; block = block })
call_by kind.Flush block = Flush

abbrev pub call_of : Place → DeviceCall
call_of place = call_by place.kind place.block.now

-- where the call lies that waits behind `at` others, in a ring whose first lies at `head`
abbrev pub place_of : ℕ → ℕ → ℕ → ℕ
place_of room head at = if nat_lt at (room - head) then head + at else at - (room - head)

-- the call at a place of the ring
abbrev pub call_in : List Kind → List ℕ → ℕ → DeviceCall
call_in kinds bytes place = call_by (slice_index_or kinds place kind.Flush) (sector_of bytes place)

-- so many calls, in order
abbrev pub calls_by : ℕ → (ℕ → DeviceCall) → List DeviceCall
calls_by zero call = []
calls_by (suc count) call = calls_by count call ++ call count ∷ []

-- the calls of a ring
abbrev pub calls_in : ℕ → List Kind → List ℕ → ℕ → ℕ → List DeviceCall
calls_in room kinds bytes head count =
    calls_by count (λ at. call_in kinds bytes (place_of room head at))

-- what is to be done by the call that waits behind `at` others
abbrev pub kind_at : List Kind → ℕ → ℕ → Kind
kind_at kinds head at = slice_index_or kinds (place_of (length kinds) head at) kind.Flush

-- so many sectors from `first` on are those from `at` on, and the others stay
pub record CopiesSectors (from : List ℕ) (first count : ℕ) (old : List ℕ) (at : ℕ) (new : List ℕ)
    : Type 0 where
  pub there : (i : ℕ) → i < count → sector_of new (at + i) ≡ sector_of from (first + i)
  pub before : (i : ℕ) → i < at → sector_of new i ≡ sector_of old i
  pub behind : (i : ℕ) → at + count ≤ i → sector_of new i ≡ sector_of old i
