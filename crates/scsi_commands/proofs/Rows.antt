use Rattle.std.proofs.Common.{◌≡◌, ◌==◌, ℕ, List, [], ◌∷◌, Result, Err, refl, arith}
use Rattle.std.specs.Prelude.{⊤, find}
use Rattle.std.proofs.lemmas.Bool.Decides.{nat_tests}
use Rattle.scsi.specs.{Sense.Sense, SenseCodes.invalid_command_operation_code, declared.command.Command.Command}
use Rattle.scsi.specs.Commands.{Row, judged_by, judged_by_row}

-- what each row of an operation code says of a block has a property
abbrev pub EachRow : (Result Command Sense → Type 0) → List ℕ → ℕ → List Row → Type 0
EachRow P block code [] = ⊤
EachRow P block code (row ∷ rows) =
    (row.code ≡ code → P (judged_by block row)) × EachRow P block code rows

-- then so has what the block says
pub by_rows : (P : Result Command Sense → Type 0) (block : List ℕ) (code : ℕ) (rows : List Row)
    → P (Err invalid_command_operation_code) → EachRow P block code rows
    → P (judged_by_row block (find (λ (row : Row). row.code == code) rows))
by_rows P block code [] unknown each = unknown
by_rows P block code (row ∷ rows) unknown each =
    let rest = by_rows P block code rows unknown each.1 in grind (arith, nat_tests, rest, each)

-- row by row two blocks say the same
abbrev pub SameRows : List ℕ → List ℕ → ℕ → List Row → List Row → Type 0
SameRows block other code [] [] = ⊤
SameRows block other code [] (row ∷ rows) = ⊥
SameRows block other code (row ∷ rows) [] = ⊥
SameRows block other code (row ∷ rows) (row' ∷ rows') =
    (row.code ≡ row'.code) × (row.code ≡ code
    → judged_by block row ≡ judged_by other row') × SameRows block other code rows rows'

-- then they say the same
pub by_same_rows : (block other : List ℕ) (code : ℕ) (rows rows' : List Row) → SameRows block other code rows rows'
    → judged_by_row block (find (λ (row : Row). row.code == code) rows) ≡ judged_by_row other (find (λ (row : Row). row.code == code) rows')
by_same_rows block other code [] [] each = refl
by_same_rows block other code [] (row ∷ rows) each = absurd each
by_same_rows block other code (row ∷ rows) [] each = absurd each
by_same_rows block other code (row ∷ rows) (row' ∷ rows') each =
    let rest = by_same_rows block other code rows rows' each.2 in grind (arith, nat_tests, rest, each)
