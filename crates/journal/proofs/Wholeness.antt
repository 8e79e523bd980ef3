-- Slots of a log, arrays with records laid over them, and whole records of an image.
use Rattle.std.proofs.Common.{◌≢◌, ℕ, ◌+◌, ◌*◌, ◌<◌, arith, ◌%◌, ◌⊎◌, zero, suc, ◌≡◌, List, [], ◌∷◌, ◌++◌, length, get_or, refl, ap, rules}
use Rattle.std.proofs.{Common.{if◌then◌else◌, ◌==◌, ◌-◌, ◌≤◌, sym, ◌∙◌, subst}, lemmas.Nat.{rows, mod_below}, Math.Nat.div-add-mod}
use Rattle.std.proofs.{lemmas.Bool.cases_eq, lemmas.Bool.Decides.nat_tests}
use Rattle.logical_blocks.specs.Blocks.{Array}
use Rattle.journal.specs.{Record.{Entry, with_blocks, with_records, Hides, home_of, Agree}, declared.log_format.LogFormat.LogFormat}
use Rattle.journal.specs.{Places.Shape, Layout.{Layout, IsWholeIn, CarriesBelowIn, KeepsIn, slot_at, Laws, IsRecordOf, by_part}}
use Rattle.journal.specs.Formats.{layout_of, IsWhole}
use Rattle.medium.specs.Medium.{Image}

-- a slot ends where the log ends, or before
pub in_log : (size slot slots o : ℕ) → slot < slots → o < size → 2 + size * slot + o < 2 + size * slots
in_log size slot slots o below small = grind (arith, rows)

-- a slot ends before a later one begins
slots_apart : (size a b o p : ℕ) → a < b → o < size → 2 + size * a + o < 2 + size * b + p
slots_apart size a b o p less small = grind (arith, rows)

-- sectors of different slots are different
pub other_sector : (size a b o p : ℕ) → a ≢ b → o < size → p < size → 2 + size * a + o ≢ 2 + size * b + p
other_sector size a b o p apart small less same = grind (arith, slots_apart size a b o p, slots_apart size b a p o)

-- a later stamp that is nearer than a round of the slots has another slot
pub other_slot : (a b k : ℕ) → a < b → b < a + k → a % k ≢ b % k
other_slot a b k less near same = grind (arith, div-add-mod a k, div-add-mod b k)

pub all_or_first : (P Q : ℕ → Type 0) (n : ℕ) → ((p : ℕ) → p < n → P p ⊎ Q p)
    → ((p : ℕ) → p < n → P p) ⊎ ((p : ℕ) × (p < n) × ((i : ℕ) → i < p → P i) × Q p)
all_or_first P Q zero each = grind arith
all_or_first P Q (suc n) each = grind (arith, all_or_first P Q n (λ p below. each p (omega arith)), each n, cases_eq)

-- a block depends on that block alone
pub with_blocks-same : (entries : List Entry) (a c : Array) (b : ℕ) → a b ≡ c b → with_blocks entries a b ≡ with_blocks entries c b
with_blocks-same [] a c b e = e
with_blocks-same (x ∷ entries) a c b e = ap (λ (v : List ℕ). if x.0 == b then x.1 else v) (with_blocks-same entries a c b e)

-- the same of records
pub with_records-same : (records : List (List Entry)) (a c : Array) (b : ℕ) → a b ≡ c b
    → with_records records a b ≡ with_records records c b
with_records-same [] a c b e = e
with_records-same (entries ∷ records) a c b e =
    with_records-same records (with_blocks entries a) (with_blocks entries c) b (with_blocks-same entries a c b e)

-- one more record is laid over the others
pub with_records-append : (records : List (List Entry)) (entries : List Entry) (a : Array) (b : ℕ)
    → with_records (records ++ entries ∷ []) a b ≡ with_blocks entries (with_records records a) b
with_records-append [] entries a b = refl
with_records-append (x ∷ records) entries a b = with_records-append records entries (with_blocks x a) b

-- a block that is named hides the one below it
pub with_blocks-hides : (entries : List Entry) (i : ℕ) (a c : Array) → i < length entries
    → with_blocks entries a (get_or entries i (0, [])).0 ≡ with_blocks entries c (get_or entries i (0, [])).0
with_blocks-hides [] i a c below = absurd (omega arith)
with_blocks-hides (e ∷ entries) zero a c below = grind (arith, nat_tests)
with_blocks-hides (e ∷ entries) (suc i) a c below = grind (arith, nat_tests, with_blocks-hides entries i a c)

-- a block that a record names is hidden
pub records-hide : (records : List (List Entry)) (j i : ℕ) → j < length records
    → i < length (get_or records j []) → Hides records (get_or (get_or records j []) i (0, [])).0
records-hide [] j i below inside a c = absurd (omega arith)
records-hide (r ∷ records) zero i below inside a c =
    with_records-same records (with_blocks r a) (with_blocks r c) (get_or r i (0, [])).0 (with_blocks-hides r i a c inside)
records-hide (r ∷ records) (suc j) i below inside a c = records-hide records j i (omega arith) inside (with_blocks r a) (with_blocks r c)

-- blocks that stand in the array already change nothing
pub with_blocks-home : (entries : List Entry) (a : Array) (b : ℕ) → ((i : ℕ) → i < length entries
    → a (get_or entries i (0, [])).0 ≡ (get_or entries i (0, [])).1) → with_blocks entries a b ≡ a b
with_blocks-home [] a b home = refl
with_blocks-home (e ∷ entries) a b home =
    let more = with_blocks-home entries a b (λ i below. home (suc i) (omega arith)) in
    let one = home 0 (omega arith) in
    grind (arith, nat_tests, cases_eq e.0 b)

-- once the blocks of a record are copied, and no others changed, home is as if they were laid over it
pub with_blocks-copied : (entries : List Entry) (old new : Array)
    → ((i : ℕ) → i < length entries → new (get_or entries i (0, [])).0 ≡ (get_or entries i (0, [])).1) → ((b : ℕ)
    → ((i : ℕ) → i < length entries → (get_or entries i (0, [])).0 ≢ b) → new b ≡ old b) → (b : ℕ) → new b ≡ with_blocks entries old b
with_blocks-copied entries old new copied others b =
    let home = with_blocks-home entries new b copied in
    let number : ℕ → ℕ = λ i. (get_or entries i (0, [])).0 in
    let named = all_or_first (λ i. number i ≢ b) (λ i. number i ≡ b) (length entries) (λ i below. search (rules, cases_eq (number i) b)) in
    grind (arith, with_blocks-same entries new old b, others b, with_blocks-hides entries)

-- a whole record is one of its stamp
pub record_of : {L : Layout} {shape : Shape} {image : Image} {stamp : ℕ} {entries : List Entry} → IsWholeIn L shape image stamp entries
    → IsRecordOf L shape.blocks stamp entries
record_of w = record { fit = w.fit; least = w.least; below = w.below }

-- a record of a format, as one of its layout
pub as_format : {format : LogFormat} {shape : Shape} {image : Image} {stamp : ℕ} {entries : List Entry} → shape.format ≡ format
    → IsWhole shape image stamp entries → IsWholeIn (layout_of format) shape image stamp entries
as_format {shape = s} {image = i} {stamp = t} {entries = es} is w = subst (λ (f : LogFormat). IsWholeIn (layout_of f) s i t es) is w

pub of_format : {format : LogFormat} {shape : Shape} {image : Image} {stamp : ℕ} {entries : List Entry} → shape.format ≡ format
    → IsWholeIn (layout_of format) shape image stamp entries → IsWhole shape image stamp entries
of_format {shape = s} {image = i} {stamp = t} {entries = es} is w = subst (λ (f : LogFormat). IsWholeIn (layout_of f) s i t es) (sym is) w

module _ (L : Layout) (laws : Laws L) (shape : Shape) where
  -- an image has at most one whole record of a stamp
  pub IsWhole-one : (image : Image) (stamp : ℕ) (es fs : List Entry)
      → IsWholeIn L shape image stamp es → IsWholeIn L shape image stamp fs → es ≡ fs
  IsWhole-one image stamp es fs h k = laws.read shape image stamp es h ∙ sym (laws.read shape image stamp fs k)

  module _ (before image : Image) where
    -- a record is whole in each image that agrees on its slot
    pub IsWhole-same : (stamp : ℕ) (entries : List Entry)
        → Agree (slot_at L shape stamp) (slot_at L shape stamp + L.slot_sectors) image before
        → IsWholeIn L shape before stamp entries → IsWholeIn L shape image stamp entries
    IsWhole-same stamp entries agree w = search (rules, arith, agree, laws.inside)

    -- the log carries what it carried in an image that agrees on it
    pub CarriesBelow-agree : (end : ℕ) → Agree 2 (2 + L.slot_sectors * shape.slots) image before
        → CarriesBelowIn L shape before end → CarriesBelowIn L shape image end
    CarriesBelow-agree end agree c slot o t low small carries =
        let inside = in_log L.slot_sectors slot shape.slots o low small in
        c slot o t low small (rw (agree _ (omega arith) inside) at carries)

    -- an image keeps records if it agrees on the super, the head, their slots and home
    pub Keeps-same : (head : ℕ) (records : List (List Entry)) (array : Array) → image 0 ≡ before 0 → image 1 ≡ before 1
        → ((j : ℕ) → j < length records → Agree (slot_at L shape (head + j)) (slot_at L shape (head + j) + L.slot_sectors) image before)
        → Agree shape.home (shape.home + shape.blocks) image before → KeepsIn L shape before head records array
        → KeepsIn L shape image head records array
    Keeps-same head records array zeroth first slots home k =
        let whole = λ (j : ℕ) (below : j < length records).
        IsWhole-same (head + j) (get_or records j []) (slots j below) (k.whole j below) in
        let blocks = λ (b : ℕ) (below : b < shape.blocks). with_records-same records (home_of shape image) (home_of shape before) b
        (home (shape.home + b) (omega arith) (omega arith)) ∙ k.blocks b below in
        grind (arith, zeroth, first, k)

  -- the sectors of a slot stand in the log
  pub slot_inside : (stamp : ℕ) → 1 ≤ shape.slots → slot_at L shape stamp + L.slot_sectors ≤ 2 + L.slot_sectors * shape.slots
  slot_inside stamp some =
      let last = in_log L.slot_sectors (stamp % shape.slots) shape.slots (L.slot_sectors - 1) in
      grind (arith, last, mod_below stamp shape.slots some)

-- ---- the parts of a record

module _ {X : Type 0} (descriptor place : ℕ → X) (commit : X) (d n p : ℕ) where
  pub by_descriptor : p < d → by_part descriptor place commit d n p ≡ descriptor p
  unfolding by_part
  by_descriptor below = grind (arith, nat_tests)

  pub by_place : d ≤ p → p < d + n → by_part descriptor place commit d n p ≡ place (p - d)
  unfolding by_part
  by_place behind below = grind (arith, nat_tests)

  pub by_commit : d + n ≤ p → by_part descriptor place commit d n p ≡ commit
  unfolding by_part
  by_commit behind = grind (arith, nat_tests)

pub ruleset parts = (by_descriptor, by_place, by_commit)
