-- Lines that were read, and those that are left.
use Rattle.std.proofs.Common.{◌≡◌, ◌≤◌, ℕ, ◌+◌, List, [], ◌∷◌, ◌++◌, length, sym, ap, ◌∙◌, arith, append_assoc, append-nil, length-append}
use Rattle.std.proofs.{lemmas.List.Elements.All-push, lemmas.List.Splits.length-slice_split, lemmas.List.Sums.count_by-le-length}
use Rattle.std.specs.Prelude.{All, ◌==◌}
use Rattle.usbdisk.specs.{declared.runner.line.ScriptKind.ScriptKind, runner.Line.IsScriptLine, runner.Lines.lines_of}

-- the first `number` lines were read, all of them of a script, and these are left
pub record IsReadTo (kind : ScriptKind) (most : ℕ) (all left : List (List ℕ)) (number : ℕ) : Type 0 where
  pub before : List (List ℕ)
  pub good : All (IsScriptLine kind most) before
  pub counted : number ≡ length before
  pub parts : all ≡ before ++ left

module _ (kind : ScriptKind) (most : ℕ) (all old left : List (List ℕ)) (line : List ℕ) (next : old ≡ line ∷ left) where
  pub read-more : (number : ℕ) → IsReadTo kind most all old number → IsScriptLine kind most line → IsReadTo kind most all left (number + 1)
  read-more number so is_line = record {
    before = so.before ++ line ∷ [];
    good = All-push (IsScriptLine kind most) so.before line so.good is_line;
    counted = omega (arith, length-append so.before (line ∷ []), so.counted);
    parts = so.parts ∙ ap (λ l. so.before ++ l) next ∙ sym (append_assoc so.before (line ∷ []) left);
  }

-- where no line is left, all were read
pub read-all : (kind : ScriptKind) (most : ℕ) (all left : List (List ℕ)) (number : ℕ) → left ≡ [] → IsReadTo kind most all left number
    → All (IsScriptLine kind most) all
read-all kind most all left number none so =
    let same : so.before ≡ all = sym (append-nil so.before) ∙ ap (λ l. so.before ++ l) (sym none) ∙ sym so.parts in
    rw same at so.good

-- no more lines were read than the script has bytes, and one
pub number-bound : (kind : ScriptKind) (most : ℕ) (script : List ℕ) (left : List (List ℕ)) (number : ℕ)
    → IsReadTo kind most (lines_of script) left number → number + length left ≤ length script + 1
number-bound kind most script left number so =
    omega (
      arith,
      so.counted,
      ap length so.parts,
      length-append so.before left,
      length-slice_split (λ byte. byte == 10) script,
      count_by-le-length (λ byte. byte == 10) script,
    )
