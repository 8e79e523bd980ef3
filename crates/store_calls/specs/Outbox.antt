-- What leaves an outbox, and how many writes to neighbouring sectors leave it together.
use Rattle.std.specs.Prelude.{◌≡◌, ◌≢◌, ◌⊎◌, ℕ, zero, suc, ◌+◌, ◌/◌, ◌%◌, ◌≤◌, List, [], ◌++◌}
use Rattle.std.specs.{Prelude.length}
use Rattle.medium.specs.{Writes.sector_of}
use Rattle.window.specs.{OutboxMedium.first_of}
use Rattle.window.specs.{Runs.{IsTo, writes_of}, Window.{Window, without_first}}

-- this many calls leave the outbox, one by one
abbrev pub without : ℕ → Window → Window
without zero w = w
without (suc count) w = without_first (without count w)

-- all that waits leaves it
pub record IsEmptied (old new : Window) : Type 0 where
  pub medium : new ≡ without (length old.outbox) old
  pub empty : new.outbox ≡ []

-- ---- a run

-- Of the calls count leave the outbox, one by one: writes to neighbouring sectors from this one on.
-- Their bytes lie one behind the other, and the others in the room stay.
pub record IsRun (old new : Window) (sector count : ℕ) (room filled : List ℕ) : Type 0 where
  pub writes : old.outbox ≡ writes_of count sector filled ++ new.outbox
  pub medium : new ≡ without count old
  pub behind : (i : ℕ) → count ≤ i → sector_of filled i ≡ sector_of room i

-- all of them that wait and have room
pub record IsLongestRun (old new : Window) (sector count : ℕ) (room filled : List ℕ) : Type 0 where
  pub run : IsRun old new sector count room filled
  pub most : count ≤ length room / 512
  -- the room is full, or what waits next is no write to the next sector
  pub ends : (count ≡ length room / 512) ⊎ ¬ IsTo (sector + count) (first_of new.outbox)

-- `size` bytes are room for no sector, or for a part of one
abbrev pub IsNoRoom : ℕ → Type 0
IsNoRoom size = (size ≡ 0) ⊎ (size % 512 ≢ 0)
