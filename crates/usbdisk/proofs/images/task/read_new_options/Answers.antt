use Rattle.std.proofs.Common.{◌≡◌, ◌≤◌, ◌-◌, ◌++◌, ◌∙◌, ℕ, List, [], ◌∷◌, Some, None, ap, sym, subst, map, take, drop, length, arith}
use Rattle.std.{proofs.lemmas.List.take_all, specs.{Prelude.get_or, Borrow.Bor}}
use Rattle.device_file.specs.{declared.existing.Existing.Existing, declared.existing.Existing.TheVariants.{Keep, Replace}}
use Rattle.journal.specs.declared.log_format.LogFormat.{LogFormat}
use Rattle.usbdisk.specs.images.Task.{AreAlignWords, AreNewOptions, AreOptions, HasNewOptions, replace_words}
use Rattle.usbdisk.proofs.Options.{none_so}
use Rattle.usbdisk.proofs.images.task.read_new_options.Goals as goal

abbrev Word : Type 0
Word = Bor (List ℕ)

abbrev texts : List Word → List (List ℕ)
texts = map (λ word. word.now)

-- six words, and those behind them
six : (words : List Word) (other : Word) → 6 ≤ length words
    → texts words
    ≡ (get_or words 0 other).now ∷ (get_or words 1 other).now ∷ (get_or words 2 other).now
    ∷ (get_or words 3 other).now ∷ (get_or words 4 other).now ∷ (get_or words 5 other).now
    ∷ texts (take (length words - 6) (drop 6 words))
six (a ∷ b ∷ c ∷ d ∷ e ∷ f ∷ rest) other many =
    let all : take (length (a ∷ b ∷ c ∷ d ∷ e ∷ f ∷ rest) - 6) rest ≡ rest = take_all _ rest (omega arith) in
    ap (λ behind. a.now ∷ b.now ∷ c.now ∷ d.now ∷ e.now ∷ f.now ∷ texts behind) (sym all)
six _ other few = absurd (omega (arith, few))

few_words : (existing : Existing) → length (replace_words existing) ≤ 1
few_words Keep = omega arith
few_words Replace = omega arith

module _ (a b c d e f : List ℕ) (rest : List (List ℕ)) where
  abbrev words : List (List ℕ)
  words = a ∷ b ∷ c ∷ d ∷ e ∷ f ∷ rest

  with_align : (format : LogFormat) (slots bytes : ℕ) (existing : Existing) → AreOptions (a ∷ b ∷ c ∷ d ∷ rest) format slots existing
      → AreAlignWords (e ∷ f ∷ []) (Some bytes) → AreNewOptions words format slots (Some bytes) existing
  with_align format slots bytes existing are align = record {
    slots_word = are.slots_word;
    align_words = e ∷ f ∷ [];
    words_are = ap (λ (all : List (List ℕ)). take 4 all ++ e ∷ f ∷ drop 4 all) are.words_are;
    slots_are = are.slots_are;
    align_is = align;
  }

  no_align : ((bytes : ℕ) → AreAlignWords (e ∷ f ∷ []) (Some bytes) → ⊥) → HasNewOptions words → ⊥
  no_align never (format, slots, None, existing, are) =
      let behind = ap length (ap (drop 4) are.words_are
      ∙ ap (λ (align : List (List ℕ)). align ++ replace_words existing) are.align_is) in
      omega (arith, behind, few_words existing)
  no_align never (format, slots, Some bytes, existing, are) =
      let behind = ap (λ (all : List (List ℕ)). take 2 (drop 4 all)) are.words_are
      ∙ ap (λ (align : List (List ℕ)). take 2 (align ++ replace_words existing)) are.align_is.1 in
      never bytes (are.align_is.0, behind, are.align_is.2)

pub returns-in_err-align-in-len6-up-clause-none : goal.returns-in_err-align-in-len6-up-clause-none
returns-in_err-align-in-len6-up-clause-none c =
    let none : HasNewOptions (texts c.args.words.now) → ⊥ = λ has.
    no_align _ _ _ _ _ _ _ c.in_err-align-in-len6-up.ensures.none
    (subst (λ (words : List (List ℕ)). HasNewOptions words) (six c.args.words.now _ c.in-len6-up.len_at_least) has) in
    none_so _ none

pub returns-in_ok-align-in-len6-up-clause-some : goal.returns-in_ok-align-in-len6-up-clause-some
returns-in_ok-align-in-len6-up-clause-some c =
    subst (λ (words : List (List ℕ)). AreNewOptions words c.in_ok-options-in-len6-up.options.format
    c.in_ok-options-in-len6-up.options.slots (Some c.in_ok-align-in-len6-up.align) c.in_ok-options-in-len6-up.options.existing)
    (sym (six c.args.words.now _ c.in-len6-up.len_at_least))
    (with_align _ _ _ _ _ _ _ _ _ _ _ c.in_ok-options-in-len6-up.ensures.some c.in_ok-align-in-len6-up.ensures.some)
