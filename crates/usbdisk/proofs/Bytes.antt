-- A number of bytes is spelled in one way: by its last letter, which is a digit or tells its unit.
use Rattle.std.proofs.Common.{◌≡◌, ◌≢◌, ◌⊎◌, ◌∙◌, ◌≤◌, ◌<◌, ◌^◌, ℕ, List, [], ◌∷◌, ◌++◌, length, Some, None, inl, inr, ⊎_elim}
use Rattle.std.proofs.Common.{refl, sym, ap, subst, arith}
use Rattle.std.specs.Prelude.{get_or, Option, IfSome}
use Rattle.std.specs.Str.Parse.{AllDigits}
use Rattle.std.proofs.lemmas.Str.Parse.{numerals_by_value, tells_digits, digit_at}
use Rattle.std.proofs.lemmas.Fmt.{decimal_nonempty, digits_decimal}
use Rattle.std.proofs.lemmas.List.{length-append}
use Rattle.usbdisk.specs.console.Numbers.{SpellsNumber}
use Rattle.usbdisk.specs.images.Task.{IsUnit, SpellsBytes}

-- a list with one letter more: that letter, and those before it
at_end : (front : List ℕ) (last : ℕ) → get_or (front ++ last ∷ []) (length front) 0 ≡ last
at_end [] last = refl
at_end (x ∷ front) last = at_end front last

abbrev last_of : List ℕ → ℕ
last_of [] = 0
last_of (x ∷ []) = x
last_of (x ∷ y ∷ rest) = last_of (y ∷ rest)

abbrev front_of : List ℕ → List ℕ
front_of [] = []
front_of (x ∷ []) = []
front_of (x ∷ y ∷ rest) = x ∷ front_of (y ∷ rest)

last_is : (front : List ℕ) (last : ℕ) → last_of (front ++ last ∷ []) ≡ last
last_is [] last = refl
last_is (x ∷ []) last = refl
last_is (x ∷ y ∷ rest) last = last_is (y ∷ rest) last

front_is : (front : List ℕ) (last : ℕ) → front_of (front ++ last ∷ []) ≡ front
front_is [] last = refl
front_is (x ∷ []) last = refl
front_is (x ∷ y ∷ rest) last = ap (λ (l : List ℕ). x ∷ l) (front_is (y ∷ rest) last)

nothing_more : (digits : List ℕ) → digits ++ [] ≡ digits
nothing_more [] = refl
nothing_more (x ∷ rest) = ap (λ (l : List ℕ). x ∷ l) (nothing_more rest)

-- the last letter of a number is a digit
is_digit : (front : List ℕ) (last number : ℕ) → SpellsNumber 0 4294967295 (front ++ last ∷ []) number → (48 ≤ last) × (last ≤ 57)
is_digit front last number spells =
    let fits : number < 2 ^ 64 = omega (arith, spells.not_more) in
    let all : AllDigits 10 (front ++ last ∷ []) = subst (λ (l : List ℕ). AllDigits 10 l) (sym spells.digits)
    (digits_decimal (numerals_by_value (AllDigits 10) tells_digits) number fits) in
    let at = digit_at (front ++ last ∷ []) (length front) all (omega (arith, length-append front (last ∷ []))) in
    (omega (arith, at.0, at_end front last), omega (arith, at.1, at_end front last))

-- a word is a number itself, or one with a letter behind it that tells a unit
abbrev Spelled : List ℕ → ℕ → Type 0
Spelled front last = ((last ≢ 75) × (last ≢ 77) × ((number : ℕ) × SpellsNumber 0 4294967295 (front ++ last ∷ []) number))
    ⊎ (((last ≡ 75) ⊎ (last ≡ 77)) × ((number : ℕ) × SpellsNumber 0 4294967295 front number))

with_letter : (front digits : List ℕ) (last letter number : ℕ) → front ++ last ∷ [] ≡ digits ++ letter ∷ []
    → SpellsNumber 0 4294967295 digits number → (last ≡ letter) × SpellsNumber 0 4294967295 front number
with_letter front digits last letter number same spells = (
  sym (last_is front last) ∙ ap last_of same ∙ last_is digits letter,
  subst (λ (l : List ℕ). SpellsNumber 0 4294967295 l number)
      (sym (sym (front_is front last) ∙ ap front_of same ∙ front_is digits letter)) spells,
)

by_unit : (front digits letters : List ℕ) (last number unit : ℕ) → front ++ last ∷ [] ≡ digits ++ letters
    → SpellsNumber 0 4294967295 digits number → IsUnit letters unit → Spelled front last
by_unit front digits letters last number unit same spells (inl none) =
    let whole : digits ≡ front ++ last ∷ [] =
    sym (same ∙ ap (λ (l : List ℕ). digits ++ l) none.0 ∙ nothing_more digits) in
    let here = subst (λ (l : List ℕ). SpellsNumber 0 4294967295 l number) whole spells in
    let digit = is_digit front last number here in
    inl ((λ is. omega (arith, digit.1, is)), (λ is. omega (arith, digit.1, is)), (number, here))
by_unit front digits letters last number unit same spells (inr (inl kib)) =
    let so = with_letter front digits last 75 number (same ∙ ap (λ (l : List ℕ). digits ++ l) kib.0) spells in
    inr (inl so.0, (number, so.1))
by_unit front digits letters last number unit same spells (inr (inr mib)) =
    let so = with_letter front digits last 77 number (same ∙ ap (λ (l : List ℕ). digits ++ l) mib.0) spells in
    inr (inr so.0, (number, so.1))

spelled : (word front : List ℕ) (last bytes : ℕ) → word ≡ front ++ last ∷ [] → SpellsBytes word bytes → Spelled front last
spelled word front last bytes is spells =
    by_unit front spells.digits spells.letters last spells.number spells.unit (sym is ∙ spells.word_is) spells.number_is spells.unit_is

-- nothing spells no number
pub never_empty : (word : List ℕ) (bytes : ℕ) → length word ≡ 0 → SpellsBytes word bytes → ⊥
never_empty word bytes none spells =
    let some = decimal_nonempty spells.number (omega (arith, spells.number_is.not_more)) in
    let digits = ap length spells.number_is.digits in
    let whole = ap length spells.word_is ∙ length-append spells.digits spells.letters in
    omega (arith, some, digits, whole, none)

-- a letter that tells a unit is one of the two
is_letter : (letter unit : ℕ) → IsUnit (letter ∷ []) unit → (letter ≡ 75) ⊎ (letter ≡ 77)
is_letter letter unit (inl none) = absurd (omega (arith, ap length none.0))
is_letter letter unit (inr (inl kib)) = inl (ap (λ (l : List ℕ). get_or l 0 0) kib.0)
is_letter letter unit (inr (inr mib)) = inr (ap (λ (l : List ℕ). get_or l 0 0) mib.0)

-- where that letter tells a unit, the number stands before it
pub only_units : (word front : List ℕ) (last unit : ℕ) → word ≡ front ++ last ∷ [] → IsUnit (last ∷ []) unit
    → ((number : ℕ) → SpellsNumber 0 4294967295 front number → ⊥) → (bytes : ℕ) → SpellsBytes word bytes → ⊥
only_units word front last unit is letter never bytes spells = ⊎_elim
    (λ plain. ⊎_elim (λ kib. plain.0 kib) (λ mib. plain.1 mib) (is_letter last unit letter))
    (λ before. never before.1.0 before.1.1)
    (spelled word front last bytes is spells)

-- a number alone is one of bytes
pub plain_bytes : (word : List ℕ) (found : Option ℕ) → IfSome found (SpellsNumber 0 4294967295 word) → IfSome found (SpellsBytes word)
plain_bytes word None none = tt
plain_bytes word (Some number) spells = record {
  digits = word;
  letters = [];
  number = number;
  unit = 1;
  word_is = sym (nothing_more word);
  number_is = spells;
  unit_is = inl (refl, refl);
  bytes_are = omega arith;
}
