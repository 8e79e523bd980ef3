-- A fact that this crate alone knows of looks.
use Rattle.std.specs.Prelude.{◌≡◌, ℕ, List, []}
use Rattle.std.specs.Coded.{Coded, Coded-set, code_by, coded×, coded_list, coded_ℕ, prop_coded}
use Rattle.medium.specs.FileStory.{Looks}
use mathlib.Core.Path.{refl}

-- A look may give any answer, since std names no bytes of a file. The story of a file keeps a proof
-- of that in a ghost field, and no view shows the proof.
abbrev pub any_looks : Looks
any_looks = record { ungiven = []; unmissed = [] }

abbrev pub TakesAny : Looks → Type 0
TakesAny looks = looks ≡ any_looks

abbrev pairs_code : Coded (List (ℕ × ℕ))
pairs_code = coded_list (coded× coded_ℕ coded_ℕ)

abbrev looks_code : Coded Looks
looks_code = code_by (List (ℕ × ℕ) × List (ℕ × ℕ)) (coded× pairs_code pairs_code)
    (λ l. (l.ungiven, l.unmissed)) (λ p. record { ungiven = p.0; unmissed = p.1 }) (λ _. refl)

-- Two such proofs are the same.
abbrev pub takes_any_code : (looks : Looks) → Coded (TakesAny looks)
takes_any_code looks = prop_coded (Coded-set looks_code looks any_looks)
