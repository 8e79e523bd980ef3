use Rattle.std.proofs.Common.{◌≡◌, ◌≤◌, inl, inr, ℕ, Bool, List, Option, Some, None, length, refl, sym, ap, arith, ◌∙◌, true≢false}
use Rattle.std.proofs.{lemmas.Bool.cases_lt, lemmas.Bool.Decides.nat_tests, lemmas.List.Quantifiers.position-Some}
use Rattle.std.{proofs.lemmas.List.Sums.fails_before_first, specs.List.{position, position_or_len}}
use Rattle.memchr.specs.Find.{IsFirstByte}
use Rattle.usbdisk.proofs.runner.parts.separator_at.Goals as goal

-- what is the first place of a search is that of the list
first_is : (test : ℕ → Bool) (bytes : List ℕ) (found told : Option ℕ) → position test bytes ≡ told → IsFirstByte test bytes found
    → found ≡ told
first_is test bytes None None told first = refl
first_is test bytes None (Some i) told first =
    let at = position-Some test bytes i 0 told in absurd (first i (omega arith) at.0 at.1)
first_is test bytes (Some k) None told first =
    let beyond : length bytes ≤ position_or_len test bytes = grind (arith, nat_tests) in
    absurd (true≢false (sym first.1 ∙ fails_before_first test bytes k 0 (omega (arith, beyond, first.0.high))))
first_is test bytes (Some k) (Some i) told first =
    let at = position-Some test bytes i 0 told in
    elim (cases_lt k i) [
      | inl low ↦ absurd (true≢false (sym first.1 ∙ at.2 k low))
      | inr high ↦ elim (cases_lt i k) [
        | inl below ↦ absurd (first.0.before i (omega arith) below at.1)
        | inr same ↦ ap (λ (n : ℕ). Some n) (omega (arith, high, same))
      ]
    ]

pub returns : goal.returns
returns c = first_is _ c.args.bytes.now c.memchr.result (position _ c.args.bytes.now) refl c.memchr.ensures
