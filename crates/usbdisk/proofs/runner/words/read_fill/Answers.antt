use Rattle.std.proofs.Common.{◌≡◌, ◌≤◌, ℕ, List, [], ◌∷◌, ◌++◌, length, take, drop, slice_index, codes, Ok, sym, ◌∙◌, refl, arith}
use Rattle.std.proofs.lemmas.List.{append_cancel_left, take_rest}
use Rattle.hex.{specs.Hex.decode_of, proofs.HexLemmas.decode_of-ok}
use Rattle.usbdisk.specs.console.Numbers.{SpellsNumber}
use Rattle.usbdisk.specs.runner.Line.{SpellsFill}
use Rattle.usbdisk.proofs.runner.words.read_fill.Goals.{then-fill-lt3-via-then-fill-lt3, then-fill-lt3-via-else-fill-lt3+then-fill-ne32}
use Rattle.usbdisk.proofs.runner.words.read_fill.Goals as goal

-- two digits, a space and a number
record AreParts (fill : List ℕ) (byte count : ℕ) : Type 0 where
  long : 3 ≤ length fill
  space : slice_index fill 2 ≡ 32
  decoded : decode_of (take 2 fill) ≡ Ok (byte ∷ [])
  counted : SpellsNumber 1 131072 (drop 3 fill) count

two_digits : (digits number fill : List ℕ) (byte count : ℕ) → fill ≡ digits ++ codes " " ++ number → length digits ≡ 2
    → decode_of digits ≡ Ok (byte ∷ []) → SpellsNumber 1 131072 number count → AreParts fill byte count
two_digits (a ∷ b ∷ []) number fill byte count parts two decoded counted =
    rw parts (record { long = omega arith; space = refl; decoded = decoded; counted = counted })
two_digits _ number fill byte count parts two decoded counted = absurd (omega arith)

-- what stands behind the word of a line that spells a fill
fill_parts : (line fill : List ℕ) (byte count : ℕ) → line ≡ codes "fill " ++ fill → SpellsFill line byte count
    → AreParts fill byte count
fill_parts line fill byte count behind spelled =
    let same = append_cancel_left (codes "fill ") fill (spelled.digits ++ codes " " ++ spelled.number) (sym behind ∙ spelled.parts) in
    two_digits spelled.digits spelled.number fill byte count same (decode_of-ok spelled.digits (byte ∷ []) spelled.decoded).2
    spelled.decoded spelled.counted

pub returns-then-fill-lt3-clause-refused : goal.returns-then-fill-lt3-clause-refused
returns-then-fill-lt3-clause-refused c byte count spelled =
    let parts = fill_parts c.args.line.now c.in_ok-fill.fill.now byte count c.in_ok-fill.ensures spelled in
    elim c.then-fill-lt3.branch [
      | then-fill-lt3-via-then-fill-lt3 w ↦ omega (arith, parts.long)
      | then-fill-lt3-via-else-fill-lt3+then-fill-ne32 w ↦ omega (arith, parts.space)
    ]

pub returns-in_err-byte-clause-refused : goal.returns-in_err-byte-clause-refused
returns-in_err-byte-clause-refused c =
    rw c.from_residual-in_err-byte.ensures
    (λ byte count spelled.
    let parts = fill_parts c.args.line.now c.in_ok-fill.fill.now byte count c.in_ok-fill.ensures spelled in
    c.in_err-byte.ensures.refused byte parts.decoded)

pub returns-in_err-count-clause-refused : goal.returns-in_err-count-clause-refused
returns-in_err-count-clause-refused c =
    rw c.from_residual-in_err-count.ensures
    (λ byte count spelled.
    let parts = fill_parts c.args.line.now c.in_ok-fill.fill.now byte count c.in_ok-fill.ensures spelled in
    c.in_err-count.ensures.refused count (rw take_rest parts.counted))
