-- Which sectors the calls of a store read.
use Rattle.std.specs.Prelude.{◌⊎◌, ◌<◌, ◌≤◌, ◌+◌, ℕ}
use Rattle.medium.specs.Medium.{State, LooksOnly}
use Rattle.journal.specs.Places.{first_home}
use Rattle.blocks.specs.StoreValue.{Cached, layout_of}
pub use Rattle.redo_log.specs.Value.{IsReadBack}

-- each read names a sector of the log, one before home, and none where the log keeps its blocks
abbrev pub LooksAtLog : State → State → Cached → Type 0
LooksAtLog before after s = LooksOnly (IsReadBack s.log) before after

-- where one of count blocks from an address on is at home
abbrev pub IsHomeOf : ℕ → ℕ → ℕ → ℕ → Type 0
IsHomeOf home address count sector = (home + address ≤ sector) × (sector < home + address + count)

-- a sector of the log where that is read back, or such a home
abbrev pub IsReadFor : Cached → ℕ → ℕ → ℕ → Type 0
IsReadFor s address count sector =
    IsReadBack s.log sector ⊎ IsHomeOf (first_home (layout_of s)) address count sector

-- each read names such a sector
abbrev pub LooksAtBlocks : State → State → Cached → ℕ → ℕ → Type 0
LooksAtBlocks before after s address count = LooksOnly (IsReadFor s address count) before after
