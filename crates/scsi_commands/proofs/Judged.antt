use Rattle.std.proofs.Common.{◌≡◌, List, [], ◌∷◌, ◌++◌, true, Result, Ok, Err, refl, sym, ◌∙◌, arith}
use Rattle.std.specs.Prelude.{IfOk, IfErr, ⊤}
use Rattle.scsi.specs.{Sense.Sense, Judging.{Test, judged}}

-- where the first tests are passed, the others decide
pub judged_after : {A B : Type 0} (tests more : List Test) (first found : A) (value : B)
    → judged tests first ≡ Ok found → judged (tests ++ more) value ≡ judged more value
judged_after [] more first found value passed = refl
judged_after (test ∷ tests) more first found value passed = let rest = judged_after tests more first found value in grind (arith, rest)

-- where one of the first tests is not passed, the others do not matter
pub judged_refused : {A B : Type 0} (tests more : List Test) (first : A) (value : B) (sense : Sense)
    → judged tests first ≡ Err sense → judged (tests ++ more) value ≡ Err sense
judged_refused [] more first value sense refused = cc
judged_refused (test ∷ tests) more first value sense refused =
    let rest = judged_refused tests more first value sense in grind (arith, rest)

-- tests that one value passes, another passes too
pub judged_passed : {A B : Type 0} (tests : List Test) (first found : A) (value : B)
    → judged tests first ≡ Ok found → judged tests value ≡ Ok value
judged_passed [] first found value passed = refl
judged_passed (test ∷ tests) first found value passed = let rest = judged_passed tests first found value in grind (arith, rest)

-- the value that is judged is the one that is found
pub judged_value : {A : Type 0} (tests : List Test) (value found : A) → judged tests value ≡ Ok found → found ≡ value
judged_value tests value found passed = let passed_too : judged tests value ≡ Ok value = judged_passed tests value found value passed in cc

-- what refuses one value refuses another
pub judged_alike : {A B : Type 0} (tests : List Test) (first : A) (value : B) (sense : Sense)
    → judged tests first ≡ Err sense → judged tests value ≡ Err sense
judged_alike [] first value sense refused = cc
judged_alike (test ∷ tests) first value sense refused = let rest = judged_alike tests first value sense in grind (arith, rest)

-- the first tests are passed, and one of the others is not: that one refuses the whole
pub judged_behind : {A B C : Type 0} (tests more : List Test) (first : A) (found : A) (second : B)
    (value : C) (sense : Sense) (answer : Result C Sense)
    → judged tests first ≡ Ok found → judged more second ≡ Err sense → answer ≡ Err sense → answer ≡ judged (tests ++ more) value
judged_behind tests more first found second value sense answer passed refused is =
    is ∙ sym (judged_after tests more first found value passed
    ∙ judged_alike more second value sense refused)

-- what the parts of a list of tests say of the whole
pub ruleset judging = (judged_after, judged_refused, judged_passed, judged_alike, judged_value)

-- each test is passed
abbrev pub AllPassed : List Test → Type 0
AllPassed [] = ⊤
AllPassed (test ∷ tests) = (test.passed ≡ true) × AllPassed tests

-- each test refuses with a sense of this kind
abbrev pub AllRefuse : (Sense → Type 0) → List Test → Type 0
AllRefuse P [] = ⊤
AllRefuse P (test ∷ tests) = P test.sense × AllRefuse P tests

-- a value that passes each test is the answer
pub judged_all : {A : Type 0} (tests : List Test) (value : A) → AllPassed tests → judged tests value ≡ Ok value
judged_all [] value passed = refl
judged_all (test ∷ tests) value passed = rw passed.0 (judged_all tests value passed.1)

-- an answer has passed each test
pub IfOk-judged : {A : Type 0} (P : A → Type 0) (tests : List Test) (value : A) → (AllPassed tests → P value) → IfOk (judged tests value) P
IfOk-judged P [] value holds = holds tt
IfOk-judged P (test ∷ tests) value holds = let rest = IfOk-judged P tests value in grind (arith, rest, holds)

-- a refusal has the sense of a test
pub IfErr-judged : {A : Type 0} (P : Sense → Type 0) (tests : List Test) (value : A) → AllRefuse P tests → IfErr (judged tests value) P
IfErr-judged P [] value all = tt
IfErr-judged P (test ∷ tests) value all = let rest = IfErr-judged P tests value all.1 in grind (arith, rest, all)

-- the last of tests that are all passed are passed
pub AllPassed-last : (tests more : List Test) → AllPassed (tests ++ more) → AllPassed more
AllPassed-last [] more passed = passed
AllPassed-last (test ∷ tests) more passed = AllPassed-last tests more passed.1

-- tests before and after
pub AllPassed-append : (tests more : List Test) → AllPassed tests → AllPassed more → AllPassed (tests ++ more)
AllPassed-append [] more before after = after
AllPassed-append (test ∷ tests) more before after =
    (before.0, AllPassed-append tests more before.1 after)

pub AllRefuse-append : (P : Sense → Type 0) (tests more : List Test) → AllRefuse P tests → AllRefuse P more → AllRefuse P (tests ++ more)
AllRefuse-append P [] more before after = after
AllRefuse-append P (test ∷ tests) more before after =
    (before.0, AllRefuse-append P tests more before.1 after)
