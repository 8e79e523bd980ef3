-- What blocks at home make with the records behind them, where they went home in order.
use Rattle.std.proofs.Common.{◌≡◌, ◌≢◌, ◌⊎◌, inr, ℕ, zero, suc, ◌<◌, ◌≤◌, List, [], ◌∷◌, length, get_or, take, drop, arith, refl, sym, ◌∙◌}
use Rattle.std.proofs.{Common.⊎_elim, lemmas.List.{length-map, get_or_default}, Math.ListN.get_or-map, lemmas.Bool.cases_eq}
use Rattle.std.proofs.{lemmas.Bool.Decides.nat_tests, Math.Seq.{take-suc, take-nil, drop-nil}}
use Rattle.std.specs.{Prelude.Contains}
use Rattle.logical_blocks.specs.Blocks.{Array}
use Rattle.journal.specs.{Record.{Entry, with_blocks, with_records, numbers_of}, Sectors.IsRising}
use Rattle.journal.proofs.Wholeness.{with_records-same, with_records-append}

-- a record that has no such block leaves it
lacks_keeps : (entries : List Entry) (a : Array) (b : ℕ) → ((e : Entry) → Contains entries e → e.0 ≢ b) → with_blocks entries a b ≡ a b
lacks_keeps [] a b lacks = refl
lacks_keeps (e ∷ entries) a b lacks =
    let rest = lacks_keeps entries a b (λ x has. lacks x (suc has.0, omega arith, has.2)) in
    grind (arith, nat_tests, lacks e (0, omega arith, refl))

-- a record hides a block, or leaves it
hides_or_keeps : (entries : List Entry) (b : ℕ) → ((a c : Array) → with_blocks entries a b ≡ with_blocks entries c b)
    ⊎ ((a : Array) → with_blocks entries a b ≡ a b)
hides_or_keeps [] b = inr (λ a. refl)
hides_or_keeps (e ∷ entries) b = grind (arith, nat_tests, cases_eq e.0 b, hides_or_keeps entries b)

-- Home has block b as the first j records make it, and of the k records that are passed none behind the j has b: then the records
-- behind the k make of home what all make of the array that was at home first.
pub goes_on_home : (records : List (List Entry)) (first home : Array) (b j k : ℕ) → home b ≡ with_records (take j records) first b
    → ((i : ℕ) → j ≤ i → i < k → i < length records → (e : Entry) → Contains (get_or records i []) e → e.0 ≢ b)
    → with_records (drop k records) home b ≡ with_records records first b
goes_on_home [] first home b j k is lacks = simp drop-nil (simp take-nil at is)
goes_on_home (r ∷ records) first home b zero zero is lacks = with_records-same (r ∷ records) home first b is
goes_on_home (r ∷ records) first home b zero (suc k) is lacks =
    goes_on_home records (with_blocks r first) home b zero k
    (is ∙ sym (lacks_keeps r first b (lacks 0 (omega arith) (omega arith) (omega arith))))
    (λ i from to below. lacks (suc i) (omega arith) (omega arith) (omega arith))
goes_on_home (r ∷ records) first home b (suc j) (suc k) is lacks =
    goes_on_home records (with_blocks r first) home b j k is
    (λ i from to below. lacks (suc i) (omega arith) (omega arith) (omega arith))
goes_on_home (r ∷ records) first home b (suc j) zero is lacks = ⊎_elim
    (λ hides. with_records-same records (with_blocks r home) (with_blocks r first) b (hides home first))
    (λ keeps. goes_on_home records (with_blocks r first) (with_blocks r home) b j zero (keeps home ∙ is) (λ i _ to. absurd (omega arith)))
    (hides_or_keeps r b)

-- a record has its blocks
has_block : (entries : List Entry) (a : Array) (i : ℕ) (e : Entry) → IsRising (numbers_of entries) → i < length entries
    → get_or entries i e ≡ e → with_blocks entries a e.0 ≡ e.1
has_block [] a i e rising below is = absurd (omega arith)
has_block (x ∷ entries) a zero e rising below is = grind (arith, nat_tests)
has_block (x ∷ entries) a (suc i) e rising below is =
    let rest = has_block entries a i e (λ j k less inside. rising (suc j) (suc k) (omega arith) (omega arith)) (omega arith) is in
    let long : length (numbers_of entries) ≡ length entries = length-map entries (λ (e : Entry). e.0) in
    let here = get_or_default (numbers_of entries) i 0 e.0 (omega (arith, long)) ∙ get_or-map (λ (x : Entry). x.0) entries i e in
    grind (arith, nat_tests, rising 0 (suc i) (omega arith) (omega (arith, long)))

-- so home has the block that the records up to this one make, where it comes from this one
pub block_of_record : (records : List (List Entry)) (first : Array) (j : ℕ) (e : Entry) → j < length records
    → IsRising (numbers_of (get_or records j [])) → Contains (get_or records j []) e
    → e.1 ≡ with_records (take (suc j) records) first e.0
block_of_record records first j e below rising has = rw (take-suc records j [] below)
    (sym (with_records-append (take j records) (get_or records j []) first e.0
    ∙ has_block (get_or records j []) (with_records (take j records) first) has.0 e rising has.1 has.2))
