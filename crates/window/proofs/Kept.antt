-- The bytes of a device of which the first sectors were read.
use Rattle.std.proofs.Common.{◌≡◌, ◌≤◌, ◌<◌, ℕ, ◌-◌, ◌*◌, ◌/◌, List, ◌++◌, length, replicate, sym, ◌∙◌, arith, length-append}
use Rattle.std.proofs.lemmas.List.{length-take, length-replicate}
use Rattle.medium.specs.Writes.{sector_of}
use Rattle.window.specs.Seen.{opened, filled}
use Rattle.window.proofs.Shown.{front}

-- a device's bytes, opened
pub opened_length : (size : ℕ) (near holds : List ℕ) → length near ≤ 512 * size → length (opened size near holds) ≡ 512 * size
opened_length size near holds le =
    length-append near (filled (512 * size - length near) holds)
    ∙ omega (
      arith,
      le,
      length-take (512 * size - length near) (holds ++ replicate (512 * size - length near) 0),
      length-append holds (replicate (512 * size - length near) 0),
      length-replicate {A = ℕ} (512 * size - length near) 0,
    )

pub opened_front : (size : ℕ) (near holds : List ℕ) (s : ℕ) → s < length near / 512
    → sector_of near s ≡ sector_of (opened size near holds) s
opened_front size near holds s lt =
    sym (front near (filled (512 * size - length near) holds) s (omega (arith, lt)))
