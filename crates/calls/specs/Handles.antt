-- What a call does to what a handle holds.
use Rattle.std.specs.Prelude.{◌≡◌, ℕ, Option, Some, None}
use Rattle.disk_machine.specs.Codes.{EMPTY}
use Rattle.calls.specs.HeldRow.{held_row}

-- what a handle holds
abbrev pub Held : Type 0
Held = held_row.Denot

-- Where the handle holds something, the call does this to it, and it stays there. Else the answer
-- is EMPTY, and nothing changes.
abbrev pub InHandle : (Held → Held → ℕ → Type 0) → Type 0 → Option Held → Option Held → ℕ → Type 0
InHandle Does Stays (Some old) (Some new) code = Does old new code
InHandle Does Stays (Some old) None code = ⊥
InHandle Does Stays None new code = (code ≡ EMPTY) × (new ≡ None) × Stays
