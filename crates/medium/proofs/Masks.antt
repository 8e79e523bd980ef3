-- The numbers that a mask keeps.
use Rattle.std.proofs.Common.{◌≡◌, ℕ, ◌+◌, ◌<◌, ◌≤◌, Bool, true, false, zero, suc, ◌⊎◌, refl, ◌∙◌, ap, arith, inl, inr, ◌==◌, ◌&&◌}
use Rattle.std.specs.Int.{bit_at}
use Rattle.std.specs.List.{list_any, range_with_len}
use Rattle.std.proofs.lemmas.Bool.Decides.{eqb_tells}
use Rattle.std.proofs.lemmas.Map.Views.{any-filter_same}
use Rattle.medium.specs.Writes.{kept_by}

inside_next : (number from count : ℕ) → from ≤ number → number < from + suc count
    → (((from == number) ≡ true) × (from ≡ number)) ⊎ (((from == number) ≡ false) × (from ≡ number → ⊥))
    → (from + 1 ≤ number → list_any (λ n. n == number) (range_with_len (from + 1) count) ≡ true)
    → list_any (λ n. n == number) (range_with_len from (suc count)) ≡ true
inside_next number from count low high (inl here) rest = rw here.0 refl
inside_next number from count low high (inr other) rest = rw other.0 (rest (omega (arith, low, other.1)))

-- a number of a range is found in it
pub inside : (number from count : ℕ) → from ≤ number → number < from + count
    → list_any (λ n. n == number) (range_with_len from count) ≡ true
inside number from zero low high = absurd (omega (arith, low, high))
inside number from (suc count) low high = inside_next number from count low high (eqb_tells from number)
    (λ later. inside number (from + 1) count later (omega (arith, high)))

outside_next : (number from count : ℕ) → from + suc count ≤ number
    → (((from == number) ≡ true) × (from ≡ number)) ⊎ (((from == number) ≡ false) × (from ≡ number → ⊥))
    → list_any (λ n. n == number) (range_with_len (from + 1) count) ≡ false
    → list_any (λ n. n == number) (range_with_len from (suc count)) ≡ false
outside_next number from count high (inl here) rest = absurd (omega (arith, high, here.1))
outside_next number from count high (inr other) rest = rw other.0 rest

-- a number behind a range is not found in it
pub outside : (number from count : ℕ) → from + count ≤ number
    → list_any (λ n. n == number) (range_with_len from count) ≡ false
outside number from zero high = refl
outside number from (suc count) high = outside_next number from count high (eqb_tells from number)
    (outside number (from + 1) count (omega (arith, high)))

same_bit : (mask number k : ℕ) → (((k == number) ≡ true) × (k ≡ number)) ⊎ (((k == number) ≡ false) × (k ≡ number → ⊥))
    → (k == number) ≡ true → (bit_at mask k == 1) ≡ (bit_at mask number == 1)
same_bit mask number k (inl here) found = ap (λ (n : ℕ). bit_at mask n == 1) here.1
same_bit mask number k (inr other) found = absurd (cc (other.0, found))

-- a number is kept where its bit is set and it is below 64
pub kept_is : (mask number : ℕ) → list_any (λ n. n == number) (kept_by mask)
    ≡ ((bit_at mask number == 1) && list_any (λ n. n == number) (range_with_len 0 64))
kept_is mask number = any-filter_same (λ n. n == number) (λ n. bit_at mask n == 1) (bit_at mask number == 1)
    (λ k found. same_bit mask number k (eqb_tells k number) found) (range_with_len 0 64)

with_true : (a b : Bool) → b ≡ true → (a && b) ≡ a
with_true true b e = e
with_true false b e = refl

with_false : (a b : Bool) → b ≡ false → (a && b) ≡ false
with_false true b e = e
with_false false b e = refl

pub kept_below : (mask number : ℕ) → number < 64 → list_any (λ n. n == number) (kept_by mask) ≡ (bit_at mask number == 1)
kept_below mask number below = kept_is mask number
    ∙ with_true (bit_at mask number == 1) _ (inside number 0 64 (omega arith) (omega (arith, below)))

pub lost_behind : (mask number : ℕ) → 64 ≤ number → list_any (λ n. n == number) (kept_by mask) ≡ false
lost_behind mask number behind = kept_is mask number
    ∙ with_false (bit_at mask number == 1) _ (outside number 0 64 (omega (arith, behind)))
