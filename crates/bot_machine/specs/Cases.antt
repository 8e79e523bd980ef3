-- The thirteen cases of the bulk-only transport: the table, and the rules that it follows.
use Rattle.spec.specs.declared.case.Endpoint.TheVariants as endpoint
use Rattle.std.specs.Prelude.{◌≡◌, ◌<◌, ◌≤◌, ◌⊎◌, ◌↔◌, ⊤, ℕ, ◌+◌, nat_le, IsTrue, if◌then◌else◌}
use Rattle.std.specs.Prelude.{Some}
use Rattle.spec.specs.{declared.way.Way.Way, declared.way.Way.TheVariants.{Nothing, In, Out}}
use Rattle.spec.specs.{declared.case.Case.Case, declared.case.Case.TheVariants.C4}
use Rattle.spec.specs.{declared.case.Outcome.Outcome, Cases.{IsCase, size_of_way}}

-- no direction without a byte
abbrev pub IsWellFormed : Way → Type 0
IsWellFormed Nothing = ⊤
IsWellFormed (In n) = 0 < n
IsWellFormed (Out n) = 0 < n

-- the case, or case 4 for a command that intended to send and failed
abbrev pub IsPossible : Case → Way → Way → Type 0
IsPossible C4 (In h) (In d) = (d < h) ⊎ (h ≡ d)
IsPossible case host intention = IsCase case host intention

-- the bytes that the device uses: all that it intends, if the host announces as many the same way
abbrev pub used_of : Way → Way → ℕ
used_of (In h) (In d) = if nat_le d h then d else 0
used_of (Out h) (Out d) = if nat_le d h then d else 0
used_of host intention = 0

-- the host expects bytes from the device
abbrev pub Reads : Way → Type 0
Reads (In n) = ⊤
Reads host = ⊥

-- the host has bytes for the device
abbrev pub Writes : Way → Type 0
Writes (Out n) = ⊤
Writes host = ⊥

-- the rules that fix what comes of a host's announcement and a device's intention
pub record IsFit (host intention : Way) (outcome : Outcome) : Type 0 where
  -- bytes used and residue make the host's length
  pub residue : used_of host intention + outcome.residue ≡ size_of_way host
  -- a phase error exactly where the device uses fewer bytes than it intends
  pub phase : IsTrue outcome.phase ↔ (used_of host intention < size_of_way intention)
  -- the host reads what the device uses, and writes all or, at a phase error, nothing
  pub read : Reads host → outcome.moved ≡ used_of host intention
  pub written : Writes host → outcome.moved ≡ (if outcome.phase then 0 else size_of_way host)
  pub moved : outcome.moved ≤ size_of_way host
  -- Bulk-In is halted exactly where the host reads fewer bytes than it announced
  pub halts_in :
      (outcome.halt ≡ Some endpoint.In) ↔ (Reads host × (outcome.moved < size_of_way host))
  -- Bulk-Out is halted exactly where the host would write and the device does not take it
  pub halts_out : (outcome.halt ≡ Some endpoint.Out) ↔ (Writes host × IsTrue outcome.phase)

-- in case 4 the device sends nothing, whatever it intended before its command failed
abbrev pub intention_in : Case → Way → Way
intention_in C4 intention = Nothing
intention_in case intention = intention
