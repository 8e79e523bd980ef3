-- The entries of a batch.
use Rattle.std.proofs.Common.{◌≡◌, ℕ, zero, suc, ◌+◌, ◌*◌, ◌-◌, ◌<◌, List, [], ◌∷◌, length, get_or, take, drop, refl, sym, ◌∙◌, ap, arith}
use Rattle.std.proofs.{Common.{slice_range, All}, lemmas.List.{length-take, length-drop, length-map, take-take, ext_get_or}}
use Rattle.std.proofs.{Math.ListN.get_or-map, lemmas.Grind.common_steps}
use Rattle.journal.specs.{Format2.{firsts_of, chunk_of}, Record.{Entry, numbers_of, entries_from, entries_of}}
use Rattle.journal.proofs.SlotTwo.{part_at, numbers_of_chunk}

numbers_from : (k : ℕ) (numbers bytes : List ℕ) → numbers_of (entries_from k numbers bytes) ≡ numbers
numbers_from k [] bytes = refl
numbers_from k (b ∷ numbers) bytes = ap (λ (l : List ℕ). b ∷ l) (numbers_from (k + 1) numbers bytes)

entry_from : (k i : ℕ) (numbers bytes : List ℕ) (d : Entry) → i < length numbers
    → get_or (entries_from k numbers bytes) i d ≡ (get_or numbers i 0, slice_range bytes (512 * (k + i)) (512 * (k + i) + 512))
entry_from k i [] bytes d below = absurd (omega arith)
entry_from k zero (b ∷ numbers) bytes d below = grind arith
entry_from k (suc i) (b ∷ numbers) bytes d below = grind (arith, entry_from (k + 1) i numbers bytes d)

pub numbers_of_batch : (numbers bytes : List ℕ) → numbers_of (entries_of numbers bytes) ≡ numbers
numbers_of_batch numbers bytes = numbers_from 0 numbers bytes

pub length_of_batch : (numbers bytes : List ℕ) → length (entries_of numbers bytes) ≡ length numbers
length_of_batch numbers bytes =
    omega (arith, length-map (entries_of numbers bytes) (λ (e : Entry). e.0), ap length (numbers_of_batch numbers bytes))

pub entry_of_batch : (i : ℕ) (numbers bytes : List ℕ) (d : Entry) → i < length numbers
    → get_or (entries_of numbers bytes) i d ≡ (get_or numbers i 0, slice_range bytes (512 * i) (512 * i + 512))
entry_of_batch i numbers bytes d below = let e : 0 + i ≡ i = omega arith in rw e at (entry_from 0 i numbers bytes d below)

-- each block has 512 bytes
pub sized_batch : (numbers bytes : List ℕ) → length bytes ≡ 512 * length numbers
    → All (λ (e : Entry). length e.1 ≡ 512) (entries_of numbers bytes)
sized_batch numbers bytes size i d below =
    let inside : i < length numbers = omega (arith, length_of_batch numbers bytes) in
    grind (arith, common_steps, entry_of_batch i numbers bytes d inside)

-- the first bytes of the i-th block
first_of_batch : (i : ℕ) (numbers bytes : List ℕ) → i < length numbers
    → take 8 (get_or (entries_of numbers bytes) i (0, [])).1 ≡ slice_range bytes (512 * i) (512 * i + 8)
first_of_batch i numbers bytes below =
    let sizes : (512 * i + 512 - 512 * i ≡ 512) × (512 * i + 8 - 512 * i ≡ 8) = (omega arith, omega arith) in
    rw (entry_of_batch i numbers bytes (0, []) below, sizes.0, sizes.1) (take-take 8 512 (drop (512 * i) bytes) (omega arith))

-- those of all of them
pub all_firsts_of : (numbers bytes : List ℕ) (firsts : List (List ℕ)) (count : ℕ) → count ≡ length numbers → length firsts ≡ count
    → ((i : ℕ) → i < count → get_or firsts i [] ≡ slice_range bytes (512 * (0 + i)) (512 * (0 + i) + 8))
    → firsts ≡ firsts_of (entries_of numbers bytes)
all_firsts_of numbers bytes firsts count all many each =
    ext_get_or [] firsts _ (simp (length-map, length_of_batch) (omega (arith, many, all)))
    (λ i below. let is = get_or-map (λ (e : Entry). take 8 e.1) (entries_of numbers bytes) i (0, []) in
    grind (arith, many, all, each i, first_of_batch i numbers bytes))

-- and of those of a descriptor
pub firsts_of_batch : (numbers bytes : List ℕ) (firsts : List (List ℕ)) (j : ℕ) → length firsts ≡ length (take 30 (drop (30 * j) numbers))
    → ((i : ℕ) → i < length (take 30 (drop (30 * j) numbers))
    → get_or firsts i [] ≡ slice_range bytes (512 * (30 * j + i)) (512 * (30 * j + i) + 8))
    → firsts ≡ firsts_of (chunk_of (entries_of numbers bytes) j)
firsts_of_batch numbers bytes firsts j count each =
    let es : List Entry = entries_of numbers bytes in
    ext_get_or [] firsts _ (simp (length-map, length-take, length-drop, length_of_batch) (simp (length-take, length-drop) at count))
    (λ i below.
    let few : i < 30 = omega (arith, count, length-take 30 (drop (30 * j) numbers)) in
    let inside : 30 * j + i < length numbers =
    omega (arith, count, length-take 30 (drop (30 * j) numbers), length-drop (30 * j) numbers) in
    each i (omega (arith, count)) ∙ sym
    (part_at es 30 (30 * j) i few (λ e. take 8 e.1) ∙ first_of_batch (30 * j + i) numbers bytes inside))

pub ruleset batch = (numbers_of_batch, length_of_batch, entry_of_batch, firsts_of_batch, numbers_of_chunk)
