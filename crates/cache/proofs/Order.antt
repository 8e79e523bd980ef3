-- The places of blocks in the row: what an edit of places and row makes of the blocks, and a cycle of places under way.
use Rattle.std.proofs.Common.{◌≡◌, ◌≢◌, ℕ, zero, suc, ◌+◌, ◌<◌, ◌≤◌, List, [], ◌∷◌, length, get_or, take, set, refl, arith, rules}
use Rattle.std.specs.List.{insert}
use Rattle.std.proofs.Math.ListN.{length-set, length-map}
use Rattle.std.proofs.lemmas.Bool.Decides.{nat_tests}
use Rattle.std.proofs.lemmas.Grind.{elements, get_or-set_at}
use Rattle.std.proofs.lemmas.List.{ext_get_or, get_or-map, get_or-set_other, get_or-take, length-take-le, set-get_or}
use Rattle.cache.specs.Order.{gathered, IsWrittenFrom, ArePlaces, AreInOrder, away, astray}

-- the block at the k-th place
pub gathered_at : (places : List ℕ) (row : List (List ℕ)) (k : ℕ) → k < length places
    → get_or (gathered places row) k [] ≡ get_or row (get_or places k 0) []
gathered_at places row k lt = get_or-map (λ (p : ℕ). get_or row p []) places k 0 [] lt

pub length-gathered : (places : List ℕ) (row : List (List ℕ)) → length (gathered places row) ≡ length places
length-gathered places row = simp length-map

pub ruleset cells = (get_or-set_at, get_or-set_other, length-set, gathered_at, length-gathered)

-- one element more is written
pub written_more : {X : Type 0} (old now : List X) (from i : ℕ) (each : ℕ → X) (none x : X) → IsWrittenFrom old now from i each none
    → from + i < length now → x ≡ each i → IsWrittenFrom old (set now (from + i) x) from (i + 1) each none
written_more old now from i each none x so_far inside is = record {
  written = λ k lt. grind (arith, cells, so_far.written k);
  before = λ k lt. grind (arith, cells, so_far.before k);
}

-- blocks in order are the first of the row
pub gathered_in_order : (places : List ℕ) (row : List (List ℕ)) → AreInOrder places → length places ≤ length row
    → gathered places row ≡ take (length places) row
gathered_in_order places row order room =
    ext_get_or [] _ _ (grind (arith, cells, length-take-le)) (λ k h. grind (arith, cells, get_or-take, order k))

-- another block at the place of the p-th number
pub gathered_set : (places : List ℕ) (row : List (List ℕ)) (p at : ℕ) (block : List ℕ) → ArePlaces places → length places ≤ length row
    → p < length places → at ≡ get_or places p 0 → gathered places (set row at block) ≡ set (gathered places row) p block
gathered_set places row p at block are room inside at_is =
    ext_get_or [] _ _ (simp (length-map, length-set)) (λ k h. grind (arith, cells, are.inside p, are.distinct k p))

-- one block more, behind the others
pub gathered_insert : (places : List ℕ) (row : List (List ℕ)) (p n : ℕ) (block : List ℕ) → ArePlaces places → n ≡ length places
    → n < length row → p ≤ length places → gathered (insert places p n) (set row n block) ≡ insert (gathered places row) p block
gathered_insert places row p n block are n_is room le =
    ext_get_or [] _ _ (grind (arith, elements, length-gathered)) (λ k h. grind (arith, elements, gathered_at))

pub ArePlaces-insert : (places : List ℕ) (p n : ℕ) → ArePlaces places → n ≡ length places → p ≤ length places
    → ArePlaces (insert places p n)
ArePlaces-insert places p n are n_is le = record {
  inside = λ k lt. grind (arith, elements);
  distinct = λ k m lt_k lt_m e. grind (arith, elements);
}

-- one place set: what was away from there no longer counts, and what is, does
astray_set : (s : ℕ) (places : List ℕ) (j v : ℕ) → j < length places
    → astray s (set places j v) + away (s + j) (get_or places j 0) ≡ astray s places + away (s + j) v
astray_set s [] j v lt = absurd (omega arith)
astray_set s (p ∷ places) zero v lt = let here : s + 0 ≡ s = omega arith in rw here (omega arith)
astray_set s (p ∷ places) (suc j) v lt =
    let next : s + suc j ≡ suc s + j = omega arith in rw next (omega (arith, astray_set (suc s) places j v))

pub astray_most : (s : ℕ) (places : List ℕ) → astray s places ≤ length places
astray_most s [] = omega arith
astray_most s (p ∷ places) = grind (arith, nat_tests, astray_most (suc s) places)

-- The block of the i-th number waits aside. Were it in the hole, each number would have the block that it had.
pub record IsTurning (start places : List ℕ) (began row : List (List ℕ)) (i hole : ℕ) (aside : List ℕ) : Type 0 where
  pub as_long : length places ≡ length start
  pub as_wide : length row ≡ length began
  pub same : gathered (set places i hole) (set row hole aside) ≡ gathered start began
  pub are : ArePlaces (set places i hole)
  pub settled : (k : ℕ) → k < length start → get_or start k 0 ≡ k → get_or (set places i hole) k 0 ≡ k

-- the block of the i-th number is taken aside
pub begins : (places : List ℕ) (row : List (List ℕ)) (i hole : ℕ) (aside : List ℕ) → ArePlaces places → hole ≡ get_or places i 0
    → aside ≡ get_or row hole [] → IsTurning places places row row i hole aside
begins places row i hole aside are hole_is aside_is =
    let back : set places i hole ≡ places = rw (hole_is, set-get_or places i 0) refl in
    let back_row : set row hole aside ≡ row = rw (aside_is, set-get_or row hole []) refl in
    record { as_long = refl; as_wide = refl; same = rw (back, back_row) refl; are = rw back are; settled = λ k lt own. rw back own }

module _ {start places : List ℕ} {began row : List (List ℕ)} {i hole : ℕ} {aside : List ℕ}
    (turning : IsTurning start places began row i hole aside) (inside : i < length start) where
  -- the hole is among the places
  pub hole_among : hole < length places
  hole_among = grind (arith, cells, turning.as_long, turning.are.inside i)

  module _ (next : ℕ) (room : length start ≤ length began) (off : hole ≢ i) (next_is : next ≡ get_or places hole 0) where
    pub next_among : (next < length places) × (next ≢ hole)
    next_among = grind (arith, cells, turning, turning.are.inside i, turning.are.inside hole, turning.are.distinct hole i)

    -- one block moves to its own place, and leaves the next hole
    pub goes_on : IsTurning start (set places hole hole) began (set row hole (get_or row next [])) i next aside
    goes_on =
        let w = next_among in
        let are = turning.are in
        let same : gathered (set (set places hole hole) i next) (set (set row hole (get_or row next [])) next aside) ≡
        gathered (set places i hole) (set row hole aside) =
        ext_get_or [] _ _ (simp (length-map, length-set)) (λ k h. grind (arith, cells, turning, are.distinct k hole, are.distinct k i)) in
        record {
          as_long = grind (arith, cells, turning);
          as_wide = grind (arith, cells, turning);
          same = cc (same, turning.same);
          are = record {
            inside = λ k lt. grind (arith, cells, are.inside k);
            distinct = λ k m lt_k lt_m e.
                grind (arith, cells, are.distinct k m, are.distinct k hole, are.distinct m hole, are.distinct k i, are.distinct m i);
          };
          settled = λ k lt own. grind (arith, cells, turning.settled k lt own);
        }

    -- one place more is its own, and two where that of the i-th is too
    pub one_more : astray 0 (set (set places hole hole) i next) + 2 ≡ astray 0 (set places i hole) + away i next
    one_more =
        let w = next_among in
        let h = hole_among in
        let e1 = astray_set 0 places i hole (grind (arith, turning)) in
        let e2 = astray_set 0 places hole hole h in
        let e3 = astray_set 0 (set places hole hole) i next (grind (arith, cells, turning)) in
        grind (arith, nat_tests, get_or-set_other, e1, e2, e3)
