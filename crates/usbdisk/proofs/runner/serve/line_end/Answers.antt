use Rattle.std.proofs.Common.{◌≡◌, ◌==◌, ◌<◌, ◌≤◌, ℕ, Bool, true, List, Option, Some, None, MatchOption, length, sym, arith, ◌∙◌, ap}
use Rattle.std.proofs.{lemmas.Bool.Decides.nat_tests, lemmas.List.{get_or-take, length-take}, lemmas.List.Quantifiers.position-Some}
use Rattle.std.{proofs.lemmas.List.Sums.fails_before_first, specs.List.{position, position_or_len}}
use Rattle.usbdisk.specs.runner.Served.{IsUnended, IsLineEnd}
use Rattle.usbdisk.proofs.runner.serve.line_end.Goals as goal

abbrev is_feed : ℕ → Bool
is_feed byte = byte == 10

none_ends : (bytes : List ℕ) → position is_feed bytes ≡ None → IsUnended bytes
none_ends bytes none =
    let beyond : length bytes ≤ position_or_len is_feed bytes = grind (arith, nat_tests) in
    λ k d lt. fails_before_first is_feed bytes k d (omega (arith, beyond, lt))

is_ten : (byte : ℕ) → is_feed byte ≡ true → byte ≡ 10
is_ten byte is = grind (arith, nat_tests, is)

ends : (bytes : List ℕ) (told : Option ℕ) → told ≡ position is_feed bytes
    → MatchOption told (IsUnended bytes) (λ end. IsLineEnd bytes end)
ends bytes None is = none_ends bytes (sym is)
ends bytes (Some end) is =
    let at = position-Some is_feed bytes end 0 (sym is) in record {
      within = at.0;
      before = λ k d lt.
          let low : k < end = omega (arith, lt, length-take end bytes) in
          ap is_feed (get_or-take end bytes k d low) ∙ (position-Some is_feed bytes end d (sym is)).2 k low;
      here = is_ten _ at.1;
    }

pub returns : goal.returns
returns c = ends c.args.bytes.now c.separator_at.result c.separator_at.ensures
