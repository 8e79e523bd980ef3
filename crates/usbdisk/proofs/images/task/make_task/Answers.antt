use Rattle.std.proofs.{Common.{◌≡◌, ◌≤◌, ◌-◌, ℕ, List, ◌∷◌, ap, sym, subst, map, take, drop, length, arith, codes}, lemmas.List.take_all}
use Rattle.std.specs.{Prelude.get_or, Borrow.Bor}
use Rattle.usbdisk.specs.images.Task.{IsMakeLine}
use Rattle.usbdisk.proofs.Options.{none_weaker}
use Rattle.usbdisk.proofs.images.task.make_task.Goals as goal

abbrev Word : Type 0
Word = Bor (List ℕ)

abbrev texts : List Word → List (List ℕ)
texts = map (λ word. word.now)

-- a word, and those behind it
one : (words : List Word) (other : Word) → 1 ≤ length words
    → texts words ≡ (get_or words 0 other).now ∷ texts (take (length words - 1) (drop 1 words))
one (a ∷ rest) other many =
    let all : take (length (a ∷ rest) - 1) rest ≡ rest = take_all _ rest (omega arith) in
    ap (λ behind. a.now ∷ texts behind) (sym all)
one _ other few = absurd (omega (arith, few))

pub returns-in-len1-up-clause-none : goal.returns-in-len1-up-clause-none
returns-in-len1-up-clause-none c =
    none_weaker c.sized_task.result (λ never line. never
    (subst (λ (words : List (List ℕ)). IsMakeLine (codes "make" ∷ c.args.image.now ∷ c.args.first.now ∷ words))
    (one c.args.rest.now _ c.in-len1-up.len_at_least) line))
    c.sized_task.ensures.none
