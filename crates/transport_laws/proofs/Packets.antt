-- Data in packets: cut off its front, and the last of them.
use Rattle.std.proofs.Common.{◌<◌, ◌≤◌, arith, ◌≡◌, ℕ, suc, ◌+◌, ◌-◌, ◌/◌, List, [], ◌∷◌, length, take, drop, ap, ◌∙◌, length-drop, nat_le}
use Rattle.std.proofs.{Math.Nat.{add-div_right, div-eq_of_lt}, lemmas.Bool.Decides.nat_tests}
use Rattle.std.specs.Prelude.{if◌then◌else◌, ◌==◌, ◌&&◌}
use Rattle.spec.specs.Packets.{packets_of, cut_into}

-- where something is left, there is one packet more than after it
one_more : (n size : ℕ) → 0 < size → 0 < n → (n + (size - 1)) / size ≡ suc (((n - size) + (size - 1)) / size)
one_more n size some h =
    let before : (n + (size - 1)) / size ≡ (n - 1) / size + 1
    = ap (λ k. k / size) (let k : n + (size - 1) ≡ (n - 1) + size = omega arith in k) ∙ add-div_right (n - 1) some in
    grind (arith, before, div-eq_of_lt)

-- where there is data, the first packet takes at most `size` bytes of it
pub packets_of-more : (size : ℕ) (bytes : List ℕ) → 0 < size → 0 < length bytes
    → packets_of size bytes ≡ take size bytes ∷ packets_of size (drop size bytes)
unfolding packets_of
packets_of-more size bytes some h =
    let left : length bytes - size ≡ length (drop size bytes) = omega (arith, length-drop size bytes) in
    let e : (length bytes + (size - 1)) / size ≡ suc ((length (drop size bytes) + (size - 1)) / size)
    = one_more (length bytes) size some h ∙ ap (λ n. suc ((n + (size - 1)) / size)) left in
    ap (λ n. cut_into size n bytes) e

pub packets_of-none : (size : ℕ) → 0 < size → packets_of size [] ≡ []
unfolding packets_of
packets_of-none size some =
    let none : (0 + (size - 1)) / size ≡ 0 = div-eq_of_lt (let k : 0 + (size - 1) < size = omega arith in k) in
    ap (λ n. cut_into size n []) none

module _ {A : Type 0} (most size due : ℕ) (a b : A) where
  -- the last packet of the data
  pub last_packet : size ≡ due → due ≤ most → a ≡ (if (size == due) && nat_le due most then a else b)
  last_packet same few = grind (arith, nat_tests)

  -- any other packet
  pub other_packet : (size ≡ due → most < due) → b ≡ (if (size == due) && nat_le due most then a else b)
  other_packet other = grind (arith, nat_tests)
