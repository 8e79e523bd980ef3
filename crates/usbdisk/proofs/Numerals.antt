-- What is parsed as a number, and what a number is spelled as.
use Rattle.std.proofs.Common.{◌≡◌, ◌≢◌, ◌≤◌, ◌<◌, ℕ, ◌^◌, List, length, slice_index, Result, Ok, Err, sym, ◌∙◌, ap, arith, zero, suc, lit<}
use Rattle.std.specs.Prelude.{decimal}
use Rattle.std.specs.Str.Parse.{ParsesUnsigned, AllDigits, digits_value}
use Rattle.std.proofs.lemmas.Str.Parse.{IsNumeralModel, numerals_by_value, tells_digits, parse_plain, digit_at}
use Rattle.std.proofs.lemmas.Fmt.{parse-decimal, decimal-digits_value, decimal_nonempty, first_decimal, decimal_digit, digits_decimal}
use Rattle.std.proofs.lemmas.Fmt.{IsAscii-decimal}
use Rattle.std.proofs.lemmas.Str.{IsUtf8-from_ascii}
use Rattle.std.specs.Str.{IsUtf8}

plain : IsNumeralModel (AllDigits 10) (digits_value 10)
plain = numerals_by_value (AllDigits 10) tells_digits

-- digits that were parsed, with no sign and no leading zero, are the decimal digits of the number
pub parsed-decimal : {E : Type 0} (text : List ℕ) (number : ℕ) (parsed : Result ℕ E) → ParsesUnsigned 64 10 text parsed → parsed ≡ Ok number
    → slice_index text 0 ≢ 43 → (slice_index text 0 ≡ 48 → length text ≤ 1) → text ≡ decimal number
parsed-decimal {E} text number (Ok value) parses is no_sign no_zero =
    let so = parse_plain plain {E = E} 64 text (Ok value) parses no_sign in
    let same : value ≡ number = cc in
    sym (decimal-digits_value plain text so.0.0 so.0.1 (λ zero. let few = no_zero zero in omega (arith, so.0.1, few)) so.0.2)
    ∙ ap decimal (sym so.1 ∙ same)
parsed-decimal text number (Err e) parses is no_sign no_zero = absurd (cc)

-- the decimal digits of a number are parsed
pub decimal-parsed : {E : Type 0} (text : List ℕ) (number : ℕ) (parsed : Result ℕ E) → ParsesUnsigned 64 10 text parsed
    → text ≡ decimal number → number < 2 ^ 64 → parsed ≡ Ok number
decimal-parsed text number parsed parses spelled fits = parse-decimal 64 number text parsed fits fits spelled parses

-- they have no sign
pub decimal-no_sign : (number : ℕ) → number < 2 ^ 64 → slice_index (decimal number) 0 ≢ 43
decimal-no_sign number fits same =
    let digit = digit_at (decimal number) 0 (digits_decimal plain number fits) (decimal_nonempty number fits) in
    omega (arith, digit.0, same)

-- nor a hyphen
pub decimal-no_hyphen : (number : ℕ) → number < 2 ^ 64 → slice_index (decimal number) 0 ≢ 45
decimal-no_hyphen number fits same =
    let digit = digit_at (decimal number) 0 (digits_decimal plain number fits) (decimal_nonempty number fits) in
    omega (arith, digit.0, same)

-- nor a leading zero, but in `0` itself
pub decimal-no_zero : (number : ℕ) → number < 2 ^ 64 → slice_index (decimal number) 0 ≡ 48 → length (decimal number) ≤ 1
decimal-no_zero zero fits same = let one = ap length (decimal_digit 0 (lit< tt)) in omega (arith, one)
decimal-no_zero (suc number) fits same = let more = first_decimal (suc number) (omega arith) fits in omega (arith, same, more)

-- they are text
pub decimal-text : (number : ℕ) → number < 2 ^ 64 → IsUtf8 (decimal number)
decimal-text number fits = IsUtf8-from_ascii (decimal number) (IsAscii-decimal number fits)
