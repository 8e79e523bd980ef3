use Rattle.std.{proofs.Common.{◌≡◌, ◌≤◌, ℕ, suc, List, [], ◌∷◌, ◌++◌, map, arith, ◌∙◌, sym, ap}, specs.Prelude.{All, decimal}}
use Rattle.usbdisk.specs.console.Numbers.{SpellsNumber}
use Rattle.usbdisk.specs.runner.Left.{parts_left}
use Rattle.usbdisk.proofs.runner.kept.read_numbers.Goals as goal

-- where all words are numbers of such a size, the one behind those read is too
number_behind : (read numbers : List ℕ) (word : List ℕ) (left : List (List ℕ)) (most : ℕ)
    → map decimal read ++ word ∷ left ≡ map decimal numbers → All (λ number. number ≤ most) numbers
    → (number : ℕ) × SpellsNumber 0 most word number
number_behind [] (number ∷ numbers) word left most same small =
    (number, record { digits = cc; not_less = omega arith; not_more = small 0 0 (omega arith) })
number_behind (first ∷ read) (number ∷ numbers) word left most same small =
    let rest : map decimal read ++ word ∷ left ≡ map decimal numbers = cc in
    number_behind read numbers word left most rest (λ k d lt. small (suc k) d (omega arith))
number_behind [] [] word left most same small = absurd (cc)
number_behind (first ∷ read) [] word left most same small = absurd (cc)

pub returns-in_err-number-clause-refused : goal.returns-in_err-number-clause-refused
returns-in_err-number-clause-refused c =
    rw c.from_residual.ensures
    (λ numbers spelled.
    let so = c.loop-word.invariant in
    let read = c.loop-word.numbers.items in
    let words = ap (λ left. map decimal read ++ left) (sym c.in-Some.ensures.steps) ∙ sym so.words ∙ spelled.words in
    let found = number_behind read numbers c.in-Some.word.now (parts_left c.next.new.self) 16383 words spelled.small in
    c.in_err-number.ensures.refused found.0 found.1)
