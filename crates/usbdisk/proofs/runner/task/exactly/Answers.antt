use Rattle.std.proofs.{Common.{◌≡◌, ◌≤◌, ◌-◌, ℕ, List, ◌∷◌, ap, sym, subst, map, take, drop, length, arith}, lemmas.List.take_all}
use Rattle.std.specs.{Prelude.{get_or, IfSome}, Borrow.Bor}
use Rattle.usbdisk.specs.runner.Task.{IsCommandLine, SpellsTask}
use Rattle.usbdisk.proofs.Options.{none_weaker}
use Rattle.usbdisk.proofs.runner.task.exactly.Goals as goal

abbrev Word : Type 0
Word = Bor (List ℕ)

abbrev texts : List Word → List (List ℕ)
texts = map (λ word. word.now)

-- six words, and those behind them
six : (words : List Word) (other : Word) → 6 ≤ length words
    → texts words
    ≡ (get_or words 0 other).now ∷ (get_or words 1 other).now ∷ (get_or words 2 other).now ∷ (get_or words 3 other).now
    ∷ (get_or words 4 other).now ∷ (get_or words 5 other).now ∷ texts (take (length words - 6) (drop 6 words))
six (a ∷ b ∷ c ∷ d ∷ e ∷ f ∷ rest) other many =
    let all : take (length (a ∷ b ∷ c ∷ d ∷ e ∷ f ∷ rest) - 6) rest ≡ rest = take_all _ rest (omega arith) in
    ap (λ behind. a.now ∷ b.now ∷ c.now ∷ d.now ∷ e.now ∷ f.now ∷ texts behind) (sym all)
six _ other few = absurd (omega (arith, few))

-- three words, and those behind them
three : (words : List Word) (other : Word) → 3 ≤ length words
    → texts words
    ≡ (get_or words 0 other).now ∷ (get_or words 1 other).now ∷ (get_or words 2 other).now ∷ texts (take (length words - 3) (drop 3 words))
three (a ∷ b ∷ c ∷ rest) other many =
    let all : take (length (a ∷ b ∷ c ∷ rest) - 3) rest ≡ rest = take_all _ rest (omega arith) in
    ap (λ behind. a.now ∷ b.now ∷ c.now ∷ texts behind) (sym all)
three _ other few = absurd (omega (arith, few))

pub returns-in-len3-up-clause-none : goal.returns-in-len3-up-clause-none
returns-in-len3-up-clause-none c =
    none_weaker c.script_task.result (λ never line. never (subst IsCommandLine (three c.args.words.now _ c.in-len3-up.len_at_least) line))
    c.script_task.ensures.none

pub returns-in-len6-up-clause-none : goal.returns-in-len6-up-clause-none
returns-in-len6-up-clause-none c =
    none_weaker c.format_task.result (λ never line. never (subst IsCommandLine (six c.args.words.now _ c.in-len6-up.len_at_least) line))
    c.format_task.ensures.none

pub returns-in-len3-up-clause-task : goal.returns-in-len3-up-clause-task
returns-in-len3-up-clause-task c =
    subst (λ (words : List (List ℕ)). IfSome c.script_task.result (SpellsTask words))
    (sym (three c.args.words.now _ c.in-len3-up.len_at_least)) c.script_task.ensures.task

pub returns-in-len6-up-clause-task : goal.returns-in-len6-up-clause-task
returns-in-len6-up-clause-task c =
    subst (λ (words : List (List ℕ)). IfSome c.format_task.result (SpellsTask words))
    (sym (six c.args.words.now _ c.in-len6-up.len_at_least)) c.format_task.ensures.task
