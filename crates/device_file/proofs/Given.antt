-- What looks at a file gave, sector by sector.
use Rattle.std.proofs.Common.{◌≡◌, ℕ, ◌+◌, ◌*◌, ◌/◌, ◌<◌, List, length, drop, sym, ◌∙◌, subst, arith}
use Rattle.std.specs.Prelude.{slice_index}
use Rattle.std.proofs.lemmas.List.{get_or-drop, get_or-take, length-take}
use Rattle.medium.specs.FileStory.{AreGiven, IsGiven, Looks}
use Rattle.medium.specs.Writes.{sector_of}
use Rattle.device_file.specs.FileValue.{GivesBlock}
use Rattle.device_file.specs.Reads.{AreRead}

module _ (looks : Looks) (at first : ℕ) (bytes : List ℕ) (at_is : at ≡ 512 * first) (given : AreGiven looks at bytes) where
  in_sector : (s : ℕ) → s < length bytes / 512 → (i : ℕ) → i < length (sector_of bytes s)
      → IsGiven looks (512 * (first + s) + i) (slice_index (sector_of bytes s) i)
  in_sector s below i inside =
      let long = length-take 512 (drop (512 * s) bytes) in
      let short : i < 512 = omega (arith, inside, long) in
      subst (λ (n : ℕ). IsGiven looks (512 * (first + s) + i) n)
      (sym (get_or-take 512 (drop (512 * s) bytes) i 0 short ∙ get_or-drop (512 * s) bytes i 0))
      (subst (λ (n : ℕ). IsGiven looks n (slice_index bytes (512 * s + i)))
      (let same : at + (512 * s + i) ≡ 512 * (first + s) + i = omega (arith, at_is) in same)
      (given (512 * s + i) (omega (arith, below, short))))

  pub sectors_given : AreRead (GivesBlock looks) first bytes
  sectors_given s below = in_sector s below
