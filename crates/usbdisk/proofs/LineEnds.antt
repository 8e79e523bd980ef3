-- Lines that come byte by byte: where they end, and which are none.
use Rattle.std.proofs.Common.{◌≡◌, ◌==◌, ◌<◌, ◌≤◌, ℕ, ◌+◌, false, List, [], ◌∷◌, ◌++◌, length, codes, slice_index, inl, inr, refl, sym, ap}
use Rattle.std.proofs.Common.{subst, ◌∙◌, arith, length-append}
use Rattle.std.proofs.lemmas.Bool.{cases_Bool}
use Rattle.std.specs.List.{onto_first}
use Rattle.std.proofs.lemmas.List.Elements.{All-head, All-tail, All-append}
use Rattle.std.proofs.lemmas.List.Splits.{slice_split_at, slice_split_none, slice_split-cons_no, slice_split-cons_yes}
use Rattle.std.proofs.lemmas.Fmt.{length-decimal-le}
use Rattle.hex.proofs.HexLemmas.{decode_of-ok}
use Rattle.usbdisk.specs.declared.runner.line.ScriptKind.TheVariants.{OneLife}
use Rattle.usbdisk.specs.declared.runner.line.ScriptLine.{ScriptLine}
use Rattle.usbdisk.specs.declared.runner.line.ScriptLine.TheVariants.{Skipped, Out, Fill, In, Setup, Tick}
use Rattle.spec.specs.declared.event.Event.{Event}
use Rattle.usbdisk.specs.runner.Events.{events_of}
use Rattle.usbdisk.specs.runner.Line.{Spells, Allows, IsScriptLine}
use Rattle.usbdisk.specs.runner.Lines.{lines_of}
use Rattle.usbdisk.specs.runner.Script.{LinePlays}
use Rattle.usbdisk.specs.runner.Served.{StandsFor, IsUnended}
use Rattle.usbdisk.proofs.Packets.{length-digits}

-- more bytes of which none is a line feed
pub unended-through : (line part : List ℕ) → IsUnended line → IsUnended part → IsUnended (line ++ part)
unended-through line part is more = All-append (λ b. (b == 10) ≡ false) line part is more

-- a line feed ends a line
pub ended_line : (line after : List ℕ) → IsUnended line → lines_of (line ++ 10 ∷ after) ≡ line ∷ lines_of after
ended_line line after is = slice_split_at (λ byte. byte == 10) line 10 after is refl

-- at the end of all stands one line more
pub last_line : (line : List ℕ) → IsUnended line → lines_of line ≡ line ∷ []
last_line line is = slice_split_none (λ byte. byte == 10) line is

-- there is a first line
first_line : (bytes : List ℕ) → (line : List ℕ) × (after : List (List ℕ)) × (lines_of bytes ≡ line ∷ after)
first_line [] = ([], [], refl)
first_line (byte ∷ bytes) =
    let next = first_line bytes in
    elim (cases_Bool (byte == 10)) [
      | inl ends ↦ ([], lines_of bytes, slice_split-cons_yes (λ b. b == 10) byte bytes ends)
      | inr goes_on ↦ (byte ∷ next.0, next.1, slice_split-cons_no (λ b. b == 10) byte bytes goes_on ∙ ap (onto_first byte) next.2)
    ]

-- it begins with what stands before any line feed
pub begins : (line more : List ℕ) → IsUnended line
    → (rest : List ℕ) × (after : List (List ℕ)) × (lines_of (line ++ more) ≡ (line ++ rest) ∷ after)
begins [] more is = first_line more
begins (byte ∷ line) more is =
    let P : ℕ → Type 0 = λ b. (b == 10) ≡ false in
    let next = begins line more (All-tail P byte line is) in
    (next.0, next.1, slice_split-cons_no (λ b. b == 10) byte (line ++ more) (All-head P byte line is) ∙ ap (onto_first byte) next.2)

-- lists that begin with different bytes
differ : (a b : ℕ) (xs ys : List ℕ) → a ∷ xs ≡ b ∷ ys → a ≡ b
differ a b xs ys is = ap (λ (l : List ℕ). slice_index l 0) is

-- a comment plays nothing
pub comment_skips : (most : ℕ) (comment : List ℕ) (asked : ScriptLine) → Spells most (codes "#" ++ comment) asked → Allows OneLife asked
    → events_of asked ≡ []
comment_skips most comment Skipped spelled allowed = refl
comment_skips most comment (Out packet) (inl (is, none)) allowed = absurd (omega (arith, differ 35 111 _ _ is))
comment_skips most comment (Out packet) (inr (digits, is, spelled)) allowed = absurd (omega (arith, differ 35 111 _ _ is))
comment_skips most comment (Fill byte count size) spelled allowed = absurd (omega (arith, differ 35 102 _ _ spelled.0.parts))
comment_skips most comment In spelled allowed = absurd (omega (arith, differ 35 105 _ _ spelled))
comment_skips most comment (Setup packet) spelled allowed = absurd (omega (arith, differ 35 115 _ _ spelled.parts))
comment_skips most comment (Tick count) spelled allowed = absurd (omega (arith, differ 35 116 _ _ spelled.parts))
comment_skips most comment _ spelled allowed = absurd allowed

-- what is held of a line plays what the line does
pub plays_line : (most : ℕ) (held line : List ℕ) (events : List Event) → StandsFor held line → LinePlays most held events
    → LinePlays most line events
plays_line most held line events (inl same) plays = subst (λ (l : List ℕ). LinePlays most l events) same plays
plays_line most held line events (inr (kept, comment, is_held, is_line)) plays = record {
  asked = Skipped;
  spelled = inr (comment, is_line);
  allowed = tt;
  events_are = plays.events_are
      ∙ comment_skips most kept plays.asked (subst (λ (l : List ℕ). Spells most l plays.asked) is_held plays.spelled) plays.allowed;
}

-- it is a line of a script where the line is one
pub holds_line : (most : ℕ) (held line : List ℕ) → StandsFor held line → IsScriptLine OneLife most line → IsScriptLine OneLife most held
holds_line most held line (inl same) is = subst (λ (l : List ℕ). IsScriptLine OneLife most l) (sym same) is
holds_line most held line (inr (kept, comment, is_held, is_line)) is = (Skipped, inr (kept, is_held), tt)

-- more bytes came: they are held, or what is held is a comment
pub stands-through : (held new line part : List ℕ) → StandsFor held line → StandsFor new (held ++ part) → StandsFor new (line ++ part)
stands-through held new line part (inl same) holds = subst (λ (l : List ℕ). StandsFor new (l ++ part)) same holds
stands-through held new line part (inr (kept, comment, is_held, is_line)) (inl is) = inr (
  kept ++ part,
  comment ++ part,
  is ∙ ap (λ (l : List ℕ). l ++ part) is_held,
  ap (λ (l : List ℕ). l ++ part) is_line,
)
stands-through held new line part (inr (kept, comment, is_held, is_line)) (inr (begins, other, is, all)) =
    inr (begins, comment ++ part, is, ap (λ (l : List ℕ). l ++ part) is_line)

-- what begins a comment, and is not empty, is one
pub first_is : (line rest comment : List ℕ) → 0 < length line → line ++ rest ≡ codes "#" ++ comment
    → (tail : List ℕ) × (line ≡ codes "#" ++ tail)
first_is [] rest comment some is = absurd (omega (arith, some))
first_is (byte ∷ line) rest comment some is = (line, ap (λ b. b ∷ line) (differ byte 35 (line ++ rest) comment is))

fill_length : (digits number : List ℕ) → length (codes "fill " ++ digits ++ codes " " ++ number) ≡ 6 + length digits + length number
fill_length digits number =
    omega (arith, length-append (codes "fill " ++ digits ++ codes " ") number, length-append (codes "fill " ++ digits) (codes " "))

-- a line with more bytes, which is no comment, is none of a script
pub too_long : (most : ℕ) (line : List ℕ) → most ≤ 512 → 1100 < length line → ((comment : List ℕ) → line ≡ codes "#" ++ comment → ⊥)
    → (asked : ScriptLine) → Spells most line asked → Allows OneLife asked → ⊥
too_long most line small long none Skipped (inl is) allowed = omega (arith, long, ap length is)
too_long most line small long none Skipped (inr (comment, is)) allowed = none comment is
too_long most line small long none (Out packet) (inl (is, alone)) allowed = omega (arith, long, ap length is)
too_long most line small long none (Out packet) (inr (digits, is, spelled)) allowed =
    omega (arith, long, ap length is, length-append (codes "out ") digits, length-digits spelled, spelled.fits, small)
too_long most line small long none (Fill byte count size) spelled allowed =
    let so = spelled.0 in
    let number = ap length so.counted.digits in
    let few = length-decimal-le 6 count (omega arith) (omega (arith, so.counted.not_more)) (omega (arith, so.counted.not_more)) in
    let two = (decode_of-ok so.digits (byte ∷ []) so.decoded).2 in
    omega (arith, long, ap length so.parts, fill_length so.digits so.number, number, few, two)
too_long most line small long none In is allowed = omega (arith, long, ap length is)
too_long most line small long none (Setup packet) spelled allowed =
    let twice = (decode_of-ok spelled.digits packet spelled.decoded).2 in
    omega (arith, long, ap length spelled.parts, length-append (codes "setup ") spelled.digits, twice, spelled.whole)
too_long most line small long none (Tick count) spelled allowed =
    let number = ap length spelled.counted.digits in
    let few = length-decimal-le 7 count (omega arith) (omega (arith, spelled.counted.not_more)) (omega (arith, spelled.counted.not_more)) in
    omega (arith, long, ap length spelled.parts, length-append (codes "tick ") spelled.number, number, few)
too_long most line small long none _ spelled allowed = allowed
