use Rattle.std.proofs.{Common.{◌≡◌, ◌≤◌, ◌-◌, ℕ, List, ◌∷◌, ap, sym, subst, map, take, drop, length, arith}, lemmas.List.take_all}
use Rattle.std.specs.{Prelude.get_or, Borrow.Bor}
use Rattle.usbdisk.specs.images.Task.{Asks}
use Rattle.usbdisk.proofs.Options.{none_weaker}
use Rattle.usbdisk.proofs.images.task.read_words.Goals as goal

abbrev Word : Type 0
Word = Bor (List ℕ)

abbrev texts : List Word → List (List ℕ)
texts = map (λ word. word.now)

-- three words, and those behind them
three : (words : List Word) (other : Word) → 3 ≤ length words
    → texts words
    ≡ (get_or words 0 other).now ∷ (get_or words 1 other).now ∷ (get_or words 2 other).now
    ∷ texts (take (length words - 3) (drop 3 words))
three (a ∷ b ∷ c ∷ rest) other many =
    let all : take (length (a ∷ b ∷ c ∷ rest) - 3) rest ≡ rest = take_all _ rest (omega arith) in
    ap (λ behind. a.now ∷ b.now ∷ c.now ∷ texts behind) (sym all)
three _ other few = absurd (omega (arith, few))

pub returns-in-len3-up-clause-none : goal.returns-in-len3-up-clause-none
returns-in-len3-up-clause-none c =
    none_weaker c.long_task.result (λ never wanted asks. never wanted
    (subst (λ words. Asks words wanted) (three c.args.words.now _ c.in-len3-up.len_at_least) asks))
    c.long_task.ensures.none
