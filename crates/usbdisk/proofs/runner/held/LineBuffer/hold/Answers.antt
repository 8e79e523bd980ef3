use Rattle.std.proofs.Common.{◌≡◌, ◌<◌, ◌≤◌, ◌+◌, ℕ, Bool, List, ◌++◌, true, false, length, take, drop, codes, refl, sym, ap, ◌∙◌, inr}
use Rattle.std.proofs.Common.{arith, append_assoc, length-append, Result, Ok, Err}
use Rattle.std.specs.Prelude.{IsOk, OnOk}
use Rattle.std.proofs.lemmas.List.{length-take}
use Rattle.std.proofs.lemmas.List.{take-append-drop}
use Rattle.usbdisk.specs.runner.Served.{StandsFor, IsTooLong}
use Rattle.usbdisk.proofs.LineEnds.{first_is}
use Rattle.usbdisk.proofs.runner.held.LineBuffer.hold.Goals as goal

ok_where : {T E P : Type 0} (r : Result T E) → IsOk r → OnOk r P → P
ok_where (Ok x) good holds = holds
ok_where (Err e) good holds = absurd (cc good)

not_comment : (b : Bool) → b ≡ false → b ≡ true → ⊥
not_comment b isnt is = let e : true ≡ false = sym is ∙ isnt in cc e

-- a first part is held of what was held and these bytes
parted : (old part new : List ℕ) (room : ℕ) → new ≡ old ++ take room part → old ++ part ≡ new ++ drop room part
parted old part new room is =
    ap (λ (l : List ℕ). old ++ l) (sym (take-append-drop room part)) ∙ sym (append_assoc old (take room part) (drop room part))
    ∙ ap (λ (l : List ℕ). l ++ drop room part) (sym is)

stands_part : (old part new : List ℕ) (room : ℕ) → new ≡ old ++ take room part
    → (comment : List ℕ) → new ≡ codes "#" ++ comment → StandsFor new (old ++ part)
stands_part old part new room is comment same =
    inr (comment, comment ++ drop room part, same, parted old part new room is ∙ ap (λ (l : List ℕ). l ++ drop room part) same)

too_long_part : (old part new : List ℕ) (room : ℕ) → new ≡ old ++ take room part → 0 < length new
    → ((comment : List ℕ) → new ≡ codes "#" ++ comment → ⊥) → 1100 < length (old ++ part) → IsTooLong (old ++ part)
too_long_part old part new room is some none long = record {
  long = long;
  no_comment = λ comment same.
      let begun = first_is new (drop room part) comment some (sym (parted old part new room is) ∙ same) in none begun.0 begun.1;
}

pub returns-then-is_comment-clause-held : goal.returns-then-is_comment-clause-held
returns-then-is_comment-clause-held c =
    let room = c.remaining_capacity-room.result in
    let part = c.args.part.now in
    let tried = c.try_extend_from_slice-2.ensures in
    let few : length (take room part) ≤ room = omega (arith, length-take {A = ℕ}) in
    let took = ok_where c.try_extend_from_slice-2.result (tried.variant.1 (omega (arith, few, c.remaining_capacity-room.ensures)))
    tried.ok in
    let comment = c.is_comment.ensures.0 c.if-is_comment.true in
    stands_part c.args.self.now.bytes.items part c.try_extend_from_slice-2.new.self.items room took comment.0
    (sym c.as_slice.ensures.value ∙ comment.1)

pub returns-clause-too_long : goal.returns-clause-too_long
returns-clause-too_long c =
    let room = c.remaining_capacity-room.result in
    let part = c.args.part.now in
    let old = c.args.self.now.bytes.items in
    let new = c.try_extend_from_slice-2.new.self.items in
    let tried = c.try_extend_from_slice-2.ensures in
    let cut : length (take room part) ≡ room = omega (arith, length-take {A = ℕ}, c.if-part-room.false) in
    let took = ok_where c.try_extend_from_slice-2.result (tried.variant.1 (omega (arith, cut, c.remaining_capacity-room.ensures)))
    tried.ok in
    let full : length new ≡ length old + room = ap length took ∙ length-append old (take room part) ∙ omega (arith, cut) in (
      refl,
      too_long_part old part new room took (omega (arith, full, c.remaining_capacity-room.ensures))
          (λ comment same. not_comment c.is_comment.result c.if-is_comment.false
          (c.is_comment.ensures.1 (comment, c.as_slice.ensures.value ∙ same)))
          (omega (arith, length-append old part, c.remaining_capacity-room.ensures, c.if-part-room.false)),
    )
