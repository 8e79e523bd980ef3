-- A search among as many places as a power of two, which halves them at each step, and binary digits.
use Rattle.std.proofs.Common.{◌≡◌, ◌⊎◌, inl, inr, ℕ, zero, suc, ◌+◌, ◌-◌, ◌*◌, ◌/◌, ◌^◌, ◌<◌, ◌≤◌, List, length, get_or, refl, ap, ◌∙◌}
use Rattle.std.proofs.Common.{arith, sym, Bool, true, false, ◌||◌, nat_eq}
use Rattle.std.proofs.lemmas.Bool.{cases_lt}
use Rattle.std.proofs.lemmas.Bool.Decides.{nat_tests}
use Rattle.std.proofs.lemmas.Nat.{pow_pos}
use Rattle.std.proofs.Math.Nat.{pow-suc, pow-le-pow_right}
use Rattle.cache.specs.Blocks.{IsRising}
use Rattle.cache.specs.Digits.{HasDigits, GrowsWithinDigits}
use Rattle.cache.specs.Places.{StandsAt, WouldStandAt}

smaller_power : (a b : ℕ) → 2 ^ a < 2 ^ b → a < b
smaller_power a b lt = elim (cases_lt a b) [
  | inl less ↦ less
  | inr ge ↦ let le : 2 ^ b ≤ 2 ^ a = pow-le-pow_right (omega arith) ge in absurd (omega arith)
]

-- each number has binary digits
digits_of : (n : ℕ) → (digits : ℕ) × HasDigits n digits
digits_of zero = (0, record { below = omega arith; least = λ fewer lt. omega arith })
digits_of (suc n) =
    let rest = digits_of n in
    elim (cases_lt (suc n) (2 ^ rest.0)) [
      | inl lt ↦ (rest.0, record { below = lt; least = λ fewer h. rest.1.least fewer (omega arith) })
      | inr ge ↦ (
        suc rest.0,
        record {
          below = omega (arith, pow-suc 2 rest.0, rest.1.below);
          least = λ fewer h. smaller_power rest.0 fewer (omega arith);
        },
      )
    ]

-- The place is one of a power of two from `low` on, of which this is the half, after `taken` steps.
pub record IsHalving (numbers : List ℕ) (block low half taken : ℕ) (found : Bool) : Type 0 where
  pub power : ℕ
  pub half_is : half ≡ 2 ^ power / 2
  pub inside : low + 2 ^ power ≤ length numbers + 1
  pub before : (k : ℕ) → k < low → get_or numbers k 0 < block
  pub few : (digits : ℕ) → length numbers < 2 ^ digits → taken + power ≤ digits
  -- the last of them is the number where it was met, and else greater
  pub missed : found ≡ false → low + 2 ^ power - 1 < length numbers → block < get_or numbers (low + 2 ^ power - 1) 0
  pub met : found ≡ true → (low + 2 ^ power - 1 < length numbers) × (get_or numbers (low + 2 ^ power - 1) 0 ≡ block)

-- a power that a word of 64 bits can hold
pub power_in_word : (power : ℕ) → power < 64 → 2 ^ power ≤ 2 ^ 63
power_in_word power lt = let le : power ≤ 63 = omega arith in pow-le-pow_right (omega arith) le

-- where something is left to halve, the half is a power of two as well
half_of : (power half : ℕ) → half ≡ 2 ^ power / 2 → 0 < half
    → (fewer : ℕ) × (power ≡ suc fewer) × (half ≡ 2 ^ fewer) × (2 ^ power ≡ half * 2)
half_of zero half is some = absurd (omega arith)
half_of (suc fewer) half is some = let double = pow-suc 2 fewer in (fewer, refl, omega arith, omega arith)

-- where nothing is, one place is left
one_left : (power : ℕ) → 0 ≡ 2 ^ power / 2 → 2 ^ power ≡ 1
one_left zero is = refl
one_left (suc fewer) is = absurd (omega (arith, pow-suc 2 fewer, pow_pos fewer))

module _ (numbers : List ℕ) (block low half taken more : ℕ) (found : Bool) (halving : IsHalving numbers block low half taken found)
    (some : 0 < half) (next : more ≡ suc taken) (number : ℕ) (read : number ≡ get_or numbers (low + half - 1) 0)
    (rising : IsRising numbers) where
  -- the place is in the lower half
  pub lower : block ≤ number → IsHalving numbers block low (half / 2) more (found || nat_eq number block)
  lower least =
      let f = half_of halving.power half halving.half_is some in
      let last : low + half - 1 ≡ low + 2 ^ f.0 - 1 = omega arith in
      let r = rising (low + half - 1) (low + 2 ^ halving.power - 1) in
      record {
        power = f.0;
        half_is = ap (λ (n : ℕ). n / 2) f.2;
        inside = omega (arith, halving.inside);
        before = halving.before;
        missed = λ is lt. rw (← last) (grind (arith, nat_tests));
        met = λ is. grind (arith, nat_tests, halving.met, r, last, halving.inside);
        few = λ digits lt. omega (arith, halving.few digits lt);
      }

  -- the place is in the upper half
  pub upper : number < block → IsHalving numbers block (low + half) (half / 2) more (found || nat_eq number block)
  upper less =
      let f = half_of halving.power half halving.half_is some in
      let last : low + half + 2 ^ f.0 - 1 ≡ low + 2 ^ halving.power - 1 = omega arith in
      record {
        power = f.0;
        half_is = ap (λ (n : ℕ). n / 2) f.2;
        inside = omega (arith, halving.inside);
        before = λ k lt. grind (arith, halving.inside, rising k (low + half - 1));
        missed = λ is lt. rw last (halving.missed (grind (arith, nat_tests)) (omega arith));
        met = λ is. rw last (halving.met (grind (arith, nat_tests)));
        few = λ digits lt. omega (arith, halving.few digits lt);
      }

-- the first step, which leaves a power of two
pub begins : (numbers : List ℕ) (block low spare power half taken : ℕ) → IsRising numbers → half ≡ 2 ^ power / 2
    → 2 ^ power ≤ length numbers + 1 → length numbers + 1 < 2 * 2 ^ power → spare ≡ length numbers + 1 - 2 ^ power
    → (low ≡ spare) ⊎ ((low ≡ 0) × (block ≤ get_or numbers (spare - 1) 0)) → ((k : ℕ) → k < low → get_or numbers k 0 < block) → taken ≤ 1
    → (spare ≡ 0 → taken ≡ 0) → IsHalving numbers block low half taken false
begins numbers block low spare power half taken rising half_is most least spare_is cases before one none = record {
  power = power;
  half_is = half_is;
  inside = grind arith;
  before = before;
  missed = λ is lt. grind (arith, rising (spare - 1) (low + 2 ^ power - 1));
  met = λ is. cc;
  few = λ digits lt. grind (arith, smaller_power power digits, smaller_power power (suc digits), pow-suc 2 digits);
}

module _ (numbers : List ℕ) (block low half taken : ℕ) (found : Bool) (halving : IsHalving numbers block low half taken found)
    (none : half ≡ 0) (rising : IsRising numbers) where
  -- one place is left: the number stands there, where it was met, and where it was not, it would stand there
  pub stands : found ≡ true → StandsAt numbers block low
  stands is =
      let one = one_left halving.power (sym none ∙ halving.half_is) in
      let last : low + 2 ^ halving.power - 1 ≡ low = omega arith in
      let edge = rw last at (halving.met is) in
      record { inside = edge.0; here = edge.1; before = halving.before }

  pub would_stand : found ≡ false → WouldStandAt numbers block low
  would_stand is =
      let one = one_left halving.power (sym none ∙ halving.half_is) in
      let last : low + 2 ^ halving.power - 1 ≡ low = omega arith in
      let more = rw last at (halving.missed is) in
      record {
        inside = omega (arith, halving.inside);
        before = halving.before;
        past = λ k from inside. grind (arith, more, rising low k);
      }

-- as many steps as binary digits, at most
pub within_power : (numbers : List ℕ) (block low half old new : ℕ) (found : Bool) → old ≤ new
    → IsHalving numbers block low half (new - old) found → GrowsWithinDigits (length numbers) old new
within_power numbers block low half old new found grows halving =
    let digits = digits_of (length numbers) in
    record { digits = digits.0; has = digits.1; grows = grows; within = omega (arith, halving.few digits.0 digits.1.below) }
