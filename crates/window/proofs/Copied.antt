-- Sectors that were copied from one row of bytes to another.
use Rattle.std.proofs.Common.{◌≡◌, inl, inr, ℕ, ◌+◌, ◌-◌, ◌*◌, ◌/◌, ◌<◌, ◌≤◌, List, length, take, drop, min, sym, ◌∙◌, ap, arith}
use Rattle.std.proofs.lemmas.Bool.{cases_lt}
use Rattle.std.proofs.lemmas.Bool.Decides.{nat_tests}
use Rattle.std.proofs.lemmas.List.{drop-take, drop-drop, take-take, length-take, length-drop}
use Rattle.std.proofs.lemmas.Slice.{take-put_mid_below, drop-put_mid, between-put_mid}
use borrow.Rule.Slice.PartMut.{put_mid}
use Rattle.medium.specs.Writes.{sector_of}
use Rattle.window.specs.Ring.{place_of, CopiesSectors}

-- a sector of a part
part : (xs : List ℕ) (a i count size : ℕ) → i < count → size ≡ 512 * count
    → sector_of xs (a + i) ≡ sector_of (take size (drop (512 * a) xs)) i
part xs a i count size lt is =
    let sum : size ≡ 512 * i + (size - 512 * i) = omega arith in
    let place : 512 * (a + i) ≡ 512 * a + 512 * i = omega arith in
    rw (sum, drop-take, drop-drop, ← place)
    (sym (take-take 512 (size - 512 * i) (drop (512 * (a + i)) xs) (omega arith)))

module _ (from bytes : List ℕ) (first count at start place size : ℕ) (start_is : start ≡ 512 * first) (place_is : place ≡ 512 * at)
    (size_is : size ≡ 512 * count) (there : 512 * (first + count) ≤ length from) (room : 512 * (at + count) ≤ length bytes) where
  abbrev block : List ℕ
  block = take size (drop start from)

  abbrev stored : List ℕ
  stored = put_mid place size bytes block

  long : length block ≡ size
  long = simp (length-take, length-drop) (omega arith)

  below : (t : ℕ) → t < at → sector_of stored t ≡ sector_of bytes t
  below t lt =
      sym (drop-take (512 * t) 512 stored)
      ∙ ap (λ (l : List ℕ). drop (512 * t) l) (take-put_mid_below place size bytes block (512 * t + 512) (omega arith) (omega arith))
      ∙ drop-take (512 * t) 512 bytes

  inside : (i : ℕ) → i < count → sector_of stored (at + i) ≡ sector_of from (first + i)
  inside i lt =
      let sum : place + size - place ≡ size = omega arith in
      let same = rw sum at (between-put_mid place size bytes block (place + size) (omega arith) (omega (arith, long))) in
      part stored at i count size lt size_is ∙ rw (← place_is, same, start_is) (sym (part from first i count size lt size_is))

  pub copied : CopiesSectors from first count bytes at stored
  copied = record {
    there = inside;
    before = below;
    behind = λ i le. ap (λ (l : List ℕ). take 512 l) (drop-put_mid place size bytes block (512 * i) (omega arith) (omega arith) long);
  }

-- by two copies, where the ring ends within them
module _ (from old mid new : List ℕ) (head count ahead : ℕ) (is : ahead ≡ min (length from / 512 - head) count)
    (starts : 512 * head ≤ length from) (fits : 512 * count ≤ length from) (one : CopiesSectors from head ahead old 0 mid)
    (two : CopiesSectors from 0 (count - ahead) mid ahead new) where
  pub first_copied : (i : ℕ) → i < count → sector_of new i ≡ sector_of from (place_of (length from / 512) head i)
  first_copied i lt = elim (cases_lt i ahead) [
    | inl less ↦
        let none : 0 + i ≡ i = omega arith in
        let there : sector_of mid i ≡ sector_of from (head + i) = rw none at (one.there i less) in
        let place : head + i ≡ place_of (length from / 512) head i = grind (arith, nat_tests) in
        two.before i less ∙ there ∙ ap (sector_of from) place
    | inr more ↦
        let sum : ahead + (i - ahead) ≡ i = omega arith in
        let none : 0 + (i - ahead) ≡ i - ahead = omega arith in
        let there : sector_of new i ≡ sector_of from (i - ahead) = rw (sum, none) at (two.there (i - ahead) (omega arith)) in
        let place : i - ahead ≡ place_of (length from / 512) head i = grind (arith, nat_tests) in
        there ∙ ap (sector_of from) place
  ]

  pub behind_stays : (i : ℕ) → count ≤ i → sector_of new i ≡ sector_of old i
  behind_stays i le = two.behind i (omega arith) ∙ one.behind i (omega arith)
