-- What reads of a file gave.
use Rattle.std.proofs.Common.{◌≡◌, ℕ, ◌+◌, ◌*◌, ◌/◌, ◌<◌, ◌≤◌, zero, suc, refl, List, ◌++◌, length, take, drop, sym, ◌∙◌, ap, subst, arith}
use Rattle.std.proofs.Common.{length-append}
use Rattle.std.proofs.lemmas.List.{take_all, length-drop}
use Rattle.std.proofs.lemmas.Slice.{drop-append-drop}
use Rattle.std.proofs.Math.Seq.{take-append_seam}
use Rattle.medium.specs.Writes.{sector_of}
use Rattle.device_file.specs.Reads.{AreRead}

-- the sector in front
pub front : (sector rest : List ℕ) → length sector ≡ 512 → sector_of (sector ++ rest) 0 ≡ sector
front sector rest count = ap (λ (n : ℕ). take n (sector ++ rest)) (sym count) ∙ take-append_seam sector rest

-- all bytes of a vector, written over
pub put_back : (n : ℕ) (x items : List ℕ) → length x ≡ n → take n (x ++ drop (length x) items) ≡ x
put_back n x items count =
    ap (λ (k : ℕ). take k (x ++ drop (length x) items)) (sym count) ∙ take-append_seam x (drop (length x) items)

module _ (holds : ℕ → List ℕ → Type 0) where
  pub alone : (sector : List ℕ) → length sector ≡ 512 → AreRead holds 0 sector → holds 0 sector
  alone sector count read = subst (λ (b : List ℕ). holds 0 b) (take_all 512 sector (omega (arith, count)))
      (read 0 (omega (arith, count)))

  behind : (sector whole : List ℕ) → length sector ≡ 512 → 512 ≤ length whole → holds 0 sector → AreRead holds 0 whole
      → (s : ℕ) → s < length (sector ++ drop (length sector) whole) / 512
      → holds (0 + s) (sector_of (sector ++ drop (length sector) whole) s)
  behind sector whole count some here read zero below =
      subst (λ (b : List ℕ). holds 0 b) (sym (front sector (drop (length sector) whole) count)) here
  behind sector whole count some here read (suc t) below =
      let is : sector_of (sector ++ drop (length sector) whole) (suc t) ≡ sector_of whole (suc t) = ap (λ (l : List ℕ). take 512 l)
      (drop-append-drop (length sector) whole sector (512 * suc t) (omega (arith, count)) refl) in
      subst (λ (b : List ℕ). holds (0 + suc t) b) (sym is) (read (suc t) (omega (
        arith,
        below,
        count,
        some,
        length-append sector (drop (length sector) whole),
        length-drop (length sector) whole,
      )))

  -- the first sector was read before, and then all of them
  pub both : (sector whole bytes : List ℕ) → length sector ≡ 512 → 512 ≤ length whole → bytes ≡ sector ++ drop (length sector) whole
      → holds 0 sector → AreRead holds 0 whole → AreRead holds 0 bytes
  both sector whole bytes count some are here read =
      subst (λ (l : List ℕ). AreRead holds 0 l) (sym are) (behind sector whole count some here read)
