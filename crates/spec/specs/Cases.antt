-- The thirteen cases of the bulk-only transport (Bulk-Only Transport 1.0, 6.7).
use Rattle.std.specs.Prelude.{◌≡◌, ◌<◌, ⊤, ℕ, ◌-◌, true, false, Some, None}
use Rattle.spec.specs.declared.way.Way.{Way}
use Rattle.spec.specs.declared.way.Way.TheVariants.{Nothing, In, Out}
use Rattle.spec.specs.declared.case.Case.{Case}
use Rattle.spec.specs.declared.case.Case.TheVariants.{C1, C2, C3, C4, C5, C6, C7, C8, C9, C10, C11}
use Rattle.spec.specs.declared.case.Case.TheVariants.{C12, C13}
use Rattle.spec.specs.declared.case.Outcome.{Outcome}
use Rattle.spec.specs.declared.case.Endpoint.TheVariants as endpoint

-- the number of bytes
abbrev pub size_of_way : Way → ℕ
size_of_way Nothing = 0
size_of_way (In n) = n
size_of_way (Out n) = n

-- the case of what the host announces and what the device intends
abbrev pub IsCase : Case → Way → Way → Type 0
IsCase C1 Nothing Nothing = ⊤
IsCase C2 Nothing (In d) = ⊤
IsCase C3 Nothing (Out d) = ⊤
IsCase C4 (In h) Nothing = ⊤
IsCase C5 (In h) (In d) = d < h
IsCase C6 (In h) (In d) = h ≡ d
IsCase C7 (In h) (In d) = h < d
IsCase C8 (In h) (Out d) = ⊤
IsCase C9 (Out h) Nothing = ⊤
IsCase C10 (Out h) (In d) = ⊤
IsCase C11 (Out h) (Out d) = d < h
IsCase C12 (Out h) (Out d) = h ≡ d
IsCase C13 (Out h) (Out d) = h < d
IsCase _ _ _ = ⊥

-- what comes of a case where the host announces h bytes and the device intends d
abbrev pub outcome_of : Case → ℕ → ℕ → Outcome
outcome_of C1 h d = record { moved = 0; halt = None; phase = false; residue = 0 }
outcome_of C2 h d = record { moved = 0; halt = None; phase = true; residue = 0 }
outcome_of C3 h d = record { moved = 0; halt = None; phase = true; residue = 0 }
outcome_of C4 h d = record { moved = 0; halt = Some endpoint.In; phase = false; residue = h }
outcome_of C5 h d = record { moved = d; halt = Some endpoint.In; phase = false; residue = h - d }
outcome_of C6 h d = record { moved = d; halt = None; phase = false; residue = 0 }
outcome_of C7 h d = record { moved = 0; halt = Some endpoint.In; phase = true; residue = h }
outcome_of C8 h d = record { moved = 0; halt = Some endpoint.In; phase = true; residue = h }
outcome_of C9 h d = record { moved = h; halt = None; phase = false; residue = h }
outcome_of C10 h d = record { moved = 0; halt = Some endpoint.Out; phase = true; residue = h }
outcome_of C11 h d = record { moved = h; halt = None; phase = false; residue = h - d }
outcome_of C12 h d = record { moved = h; halt = None; phase = false; residue = 0 }
outcome_of C13 h d = record { moved = 0; halt = Some endpoint.Out; phase = true; residue = h }
