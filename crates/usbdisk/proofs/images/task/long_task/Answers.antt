use Rattle.std.{proofs.Common.{◌≡◌, ℕ, List, [], ◌∷◌, ap, subst, map, length, arith, codes}, specs.{Prelude.get_or, Borrow.Bor}}
use Rattle.usbdisk.specs.images.Task.{Wanted, Asks, IsMakeLine, IsImportLine, IsExportLine}
use Rattle.usbdisk.specs.images.Task.Wanted.{Help, Version, Show, Migrate, Make, Import, Export}
use Rattle.usbdisk.proofs.Options.{none_weaker}
use Rattle.usbdisk.proofs.images.task.long_task.Goals as goal

-- the first letter of the first word
abbrev letter : List (List ℕ) → ℕ
letter words = get_or (get_or words 0 []) 0 0

module _ (verb first second : List ℕ) (rest : List (List ℕ)) where
  abbrev words : List (List ℕ)
  words = verb ∷ first ∷ second ∷ rest

  not_make : (letter words ≡ 109 → ⊥) → IsMakeLine words → ⊥
  not_make other (image, sizes, existing, are) = other (ap letter are.words_are)

  not_import : (letter words ≡ 105 → ⊥) → IsImportLine words → ⊥
  not_import other (raw, image, format, slots, existing, are) = other (ap letter are.words_are)

  not_export : (letter words ≡ 101 → ⊥) → IsExportLine words → ⊥
  not_export other (image, raw, existing, are) = other (ap letter are.words_are)

  -- three words ask for nothing else
  no_other : (IsMakeLine words → ⊥) → (IsImportLine words → ⊥) → (IsExportLine words → ⊥)
      → (wanted : Wanted) → Asks words wanted → ⊥
  no_other make import export Help same = omega (arith, ap length same)
  no_other make import export Version same = omega (arith, ap length same)
  no_other make import export (Show image) are = omega (arith, ap length are.words_are)
  no_other make import export (Migrate image) are = omega (arith, ap length are.words_are)
  no_other make import export (Make image sizes existing) are = make (image, sizes, existing, are)
  no_other make import export (Import raw image format slots existing) are = import (raw, image, format, slots, existing, are)
  no_other make import export (Export image raw existing) are = export (image, raw, existing, are)

  -- the letter of a word that is another
  apart : (word : List ℕ) (m : ℕ) → verb ≡ word → (get_or word 0 0 ≡ m → ⊥) → letter words ≡ m → ⊥
  apart word m is other same = other (subst (λ (w : List ℕ). get_or w 0 0 ≡ m) is same)

abbrev texts : List (Bor (List ℕ)) → List (List ℕ)
texts = map (λ word. word.now)

pub returns-in-make-clause-none : goal.returns-in-make-clause-none
returns-in-make-clause-none c =
    let v = c.args.verb.now in
    let f = c.args.first.now in
    let s = c.args.second.now in
    let r = texts c.args.rest.now in
    none_weaker c.make_task.result (λ never. no_other v f s r
    (λ line. never (subst (λ (verb : List ℕ). IsMakeLine (verb ∷ f ∷ s ∷ r)) c.in-make.is line))
    (not_import v f s r (apart v f s r (codes "make") 105 c.in-make.is (λ same. omega (arith, same))))
    (not_export v f s r (apart v f s r (codes "make") 101 c.in-make.is (λ same. omega (arith, same)))))
    c.make_task.ensures.none

pub returns-in-import-clause-none : goal.returns-in-import-clause-none
returns-in-import-clause-none c =
    let v = c.args.verb.now in
    let f = c.args.first.now in
    let s = c.args.second.now in
    let r = texts c.args.rest.now in
    none_weaker c.import_task.result (λ never. no_other v f s r
    (not_make v f s r (apart v f s r (codes "import") 109 c.in-import.is (λ same. omega (arith, same))))
    (λ line. never (subst (λ (verb : List ℕ). IsImportLine (verb ∷ f ∷ s ∷ r)) c.in-import.is line))
    (not_export v f s r (apart v f s r (codes "import") 101 c.in-import.is (λ same. omega (arith, same)))))
    c.import_task.ensures.none

pub returns-in-export-clause-none : goal.returns-in-export-clause-none
returns-in-export-clause-none c =
    let v = c.args.verb.now in
    let f = c.args.first.now in
    let s = c.args.second.now in
    let r = texts c.args.rest.now in
    none_weaker c.export_task.result (λ never. no_other v f s r
    (not_make v f s r (apart v f s r (codes "export") 109 c.in-export.is (λ same. omega (arith, same))))
    (not_import v f s r (apart v f s r (codes "export") 105 c.in-export.is (λ same. omega (arith, same))))
    (λ line. never (subst (λ (verb : List ℕ). IsExportLine (verb ∷ f ∷ s ∷ r)) c.in-export.is line)))
    c.export_task.ensures.none
