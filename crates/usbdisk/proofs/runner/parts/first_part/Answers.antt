use Rattle.std.proofs.Common.{◌≡◌, ◌==◌, ◌≤◌, ◌+◌, ℕ, List, [], ◌∷◌, Bool, length, take, drop, Some, None, arith, ◌-◌, sym, length-drop}
use Rattle.std.proofs.{lemmas.Bool.Decides.nat_tests, lemmas.List.Quantifiers.position-Some}
use Rattle.std.proofs.{lemmas.List.Sums.{position_or_len_is, fails_before_first}, lemmas.List.Splits.{slice_split_first, slice_split_none}}
use Rattle.std.{proofs.lemmas.List.take_all, specs.List.{position, position_or_len}}
use Rattle.usbdisk.specs.runner.Lines.{parts_of}
use Rattle.usbdisk.proofs.runner.parts.first_part.Goals as goal

-- the parts, where the first separator stands at an index
parts_of-cut : (separator : ℕ) (bytes : List ℕ) (end : ℕ) → position (λ byte. byte == separator) bytes ≡ Some end
    → parts_of separator bytes ≡ take end bytes ∷ parts_of separator (drop (end + 1) bytes)
parts_of-cut separator bytes end found =
    let is_separator : ℕ → Bool = λ byte. byte == separator in
    let at = position-Some is_separator bytes end 0 found in
    let within : end ≤ length bytes = omega (arith, at.0) in
    let place : position_or_len is_separator bytes ≡ end = position_or_len_is is_separator bytes end 0 within at.2 (λ _. at.1) in
    let first = slice_split_first is_separator bytes 0 (let e = place in let l = at.0 in omega arith) in
    rw place at first

-- a text with no separator is one part
parts_of-one : (separator : ℕ) (bytes : List ℕ) → position (λ byte. byte == separator) bytes ≡ None
    → parts_of separator bytes ≡ bytes ∷ []
parts_of-one separator bytes none =
    let is_separator : ℕ → Bool = λ byte. byte == separator in
    let beyond : length bytes ≤ position_or_len is_separator bytes = grind (arith, nat_tests) in
    slice_split_none is_separator bytes (λ k d lt. fails_before_first is_separator bytes k d (omega arith))

pub returns-in-None : goal.returns-in-None
returns-in-None c = parts_of-one c.args.separator c.args.bytes.now (sym c.in-None.ensures)

pub returns-in-Some : goal.returns-in-Some
returns-in-Some c =
    let cut = parts_of-cut c.args.separator c.args.bytes.now c.in-Some.end (sym c.in-Some.ensures) in
    rw
    (take_all (length c.args.bytes.now - (c.in-Some.end + 1)) (drop (c.in-Some.end + 1) c.args.bytes.now)
    (omega (arith, length-drop (c.in-Some.end + 1) c.args.bytes.now))) cut
