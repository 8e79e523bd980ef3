-- Calls that wait, and those that a file was asked for.
use Rattle.std.proofs.Common.{◌≡◌, ℕ, ◌+◌, ◌<◌, ◌≤◌, zero, suc, List, [], ◌∷◌, ◌++◌, length, refl, sym, ◌∙◌}
use Rattle.std.proofs.Common.{ap, subst, arith, append_assoc, add-one}
use Rattle.std.proofs.Common.{length-append, inl, inr, Some, Bool, true, false}
use Rattle.std.proofs.lemmas.Bool.{cases_lt}
use Rattle.std.proofs.lemmas.List.{append-nil}
use Rattle.medium.specs.Writes.{sector_of}
use Rattle.window.specs.OutboxMedium.{first_of}
use Rattle.window.specs.declared.call.DeviceCall.{DeviceCall}
use Rattle.device_file.specs.Asked.{AsksInOrder, Told, answered, asked_for, refused}
use Rattle.device_file.specs.Reads.{AreReadFrom, sectors_in}
use Rattle.device_file.specs.Copied.{some_write, some_writes, moved_call, moved_calls}

-- behind one part another
pub answered_twice : (good : Bool) (p q : List DeviceCall) (t : Told) → answered good q (asked_for p t) ≡ answered good (p ++ q) t
answered_twice true p q t = ap (λ (l : List DeviceCall). record t { asked = l }) (append_assoc t.asked p q)
answered_twice false p q t = ap (λ (l : List DeviceCall). refused (record t { asked = l })) (append_assoc t.asked p q)

pub asked_none : (t : Told) → t ≡ asked_for [] t
asked_none t = ap (λ (l : List DeviceCall). record t { asked = l }) (sym (append-nil t.asked))

-- what was asked, good or refused
pub asked_at : (good : Bool) (calls : List DeviceCall) (t : Told) → (answered good calls t).asked ≡ t.asked ++ calls
asked_at true calls t = refl
asked_at false calls t = refl

-- all of them, where none was refused
pub in_order_all : {c : List DeviceCall} {a b : Told} → AsksInOrder c true a b → b ≡ asked_for c a
in_order_all {a = a} f = f.told_is ∙ ap (λ (l : List DeviceCall). asked_for l a)
    (sym (append-nil f.part) ∙ ap (λ (l : List DeviceCall). f.part ++ l) (sym (f.all refl)) ∙ sym f.parts)

pub parts_through : (c d p q u v w : List DeviceCall) → u ++ c ≡ p ++ v → v ++ d ≡ q ++ w → u ++ (c ++ d) ≡ (p ++ q) ++ w
parts_through c d p q u v w first next =
    sym (append_assoc u c d) ∙ ap (λ (l : List DeviceCall). l ++ d) first ∙ append_assoc p v d
    ∙ ap (λ (l : List DeviceCall). p ++ l) next ∙ sym (append_assoc p q w)

pub some_writes-append : (first : ℕ) (xs ys : List (List ℕ))
    → some_writes first (xs ++ ys) ≡ some_writes first xs ++ some_writes (first + length xs) ys
some_writes-append first [] ys = ap (λ (n : ℕ). some_writes n ys) (omega arith)
some_writes-append first (x ∷ xs) ys =
    ap (λ (l : List DeviceCall). some_write first x ++ l) (
    some_writes-append (first + 1) xs ys
    ∙ ap (λ (n : ℕ). some_writes (first + 1) xs ++ some_writes n ys) (omega arith)
    ) ∙ sym (append_assoc (some_write first x) (some_writes (first + 1) xs) (some_writes (first + length (x ∷ xs)) ys))

pub moved_calls-append : (first count : ℕ) (xs ys : List DeviceCall)
    → moved_calls first count (xs ++ ys) ≡ moved_calls first count xs ++ moved_calls first count ys
moved_calls-append first count [] ys = refl
moved_calls-append first count (x ∷ xs) ys =
    ap (λ (l : List DeviceCall). moved_call first count x ++ l) (moved_calls-append first count xs ys)
    ∙ sym (append_assoc (moved_call first count x) (moved_calls first count xs) (moved_calls first count ys))

pub length-sectors_in : (count : ℕ) (bytes : List ℕ) → length (sectors_in count bytes) ≡ count
length-sectors_in zero bytes = refl
length-sectors_in (suc count) bytes =
    length-append (sectors_in count bytes) (sector_of bytes count ∷ [])
    ∙ ap (λ (n : ℕ). n + 1) (length-sectors_in count bytes) ∙ omega arith

-- the writes of one sector more
pub sectors_more : (first count : ℕ) (bytes : List ℕ) → some_writes first (sectors_in (count + 1) bytes)
    ≡ some_writes first (sectors_in count bytes) ++ some_write (first + count) (sector_of bytes count)
sectors_more first count bytes =
    ap (λ (n : ℕ). some_writes first (sectors_in n bytes)) (add-one count)
    ∙ some_writes-append first (sectors_in count bytes) (sector_of bytes count ∷ [])
    ∙ ap (λ (n : ℕ). some_writes first (sectors_in count bytes) ++ some_writes (first + n) (sector_of bytes count ∷ []))
    (length-sectors_in count bytes)
    ∙ ap (λ (l : List DeviceCall). some_writes first (sectors_in count bytes) ++ l)
    (append-nil (some_write (first + count) (sector_of bytes count)))

module _ (holds : ℕ → List ℕ → Type 0) where
  pub read-append : (first : ℕ) (xs ys : List (List ℕ)) → AreReadFrom holds first xs
      → AreReadFrom holds (first + length xs) ys → AreReadFrom holds first (xs ++ ys)
  read-append first [] ys left right = subst (λ (n : ℕ). AreReadFrom holds n ys) (omega arith) right
  read-append first (x ∷ xs) ys left right =
      (left.0, read-append (first + 1) xs ys left.1 (subst (λ (n : ℕ). AreReadFrom holds n ys) (omega arith) right))

  pub read_sectors : (first count : ℕ) (bytes : List ℕ) → ((s : ℕ) → s < count → holds (first + s) (sector_of bytes s))
      → AreReadFrom holds first (sectors_in count bytes)
  read_sectors first zero bytes each = tt
  read_sectors first (suc count) bytes each =
      read-append first (sectors_in count bytes) (sector_of bytes count ∷ [])
      (read_sectors first count bytes (λ s below. each s (omega (arith, below)))) (
        subst (λ (n : ℕ). holds (first + n) (sector_of bytes count)) (sym (length-sectors_in count bytes))
            (each count (omega arith)),
        tt,
      )

-- what the writes of a first part of the sectors are of those of all
pub sectors_first : (first i n : ℕ) (bytes : List ℕ) → i ≤ n
    → (more : List DeviceCall) × (some_writes first (sectors_in n bytes) ≡ some_writes first (sectors_in i bytes) ++ more)
sectors_first first i zero bytes few =
    let same : zero ≡ i = omega (arith, few) in (
      [],
      ap (λ (k : ℕ). some_writes first (sectors_in k bytes)) same
          ∙ sym (append-nil (some_writes first (sectors_in i bytes))),
    )
sectors_first first i (suc n) bytes few = elim (cases_lt i (suc n)) [
  | inl below ↦ (let (more, is) = sectors_first first i n bytes (omega (arith, below)) in (
    more ++ some_write (first + n) (sector_of bytes n),
    ap (λ (k : ℕ). some_writes first (sectors_in k bytes)) (sym (add-one n)) ∙ sectors_more first n bytes
        ∙ ap (λ (l : List DeviceCall). l ++ some_write (first + n) (sector_of bytes n)) is
        ∙ append_assoc (some_writes first (sectors_in i bytes)) more (some_write (first + n) (sector_of bytes n)),
  ))
  | inr all ↦ (let same : suc n ≡ i = omega (arith, all, few) in (
    [],
    ap (λ (k : ℕ). some_writes first (sectors_in k bytes)) same ∙ sym (append-nil (some_writes first (sectors_in i bytes))),
  ))
]

-- the call that waits first
pub first_is : (calls : List DeviceCall) (call : DeviceCall) → first_of calls ≡ Some call
    → (rest : List DeviceCall) × (calls ≡ call ∷ rest)
first_is [] call none = absurd (cc)
first_is (c ∷ calls) call some = let same : c ≡ call = cc in (calls, ap (λ (x : DeviceCall). x ∷ calls) same)

pub moved_one : (first count : ℕ) (gone : List DeviceCall) (call : DeviceCall) → moved_calls first count (gone ++ call ∷ [])
    ≡ moved_calls first count gone ++ moved_call first count call
moved_one first count gone call =
    moved_calls-append first count gone (call ∷ [])
    ∙ ap (λ (l : List DeviceCall). moved_calls first count gone ++ l) (append-nil (moved_call first count call))
