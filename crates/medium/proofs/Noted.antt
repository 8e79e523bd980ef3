-- A call that is noted leaves what is known of looks.
use Rattle.std.proofs.Common.{◌≡◌, ℕ, List, [], refl}
use Rattle.std.specs.Prelude.{Bool, true, false, if◌then◌else◌}
use Rattle.medium.specs.FileStory.{Told, after, noted}
use Rattle.medium.specs.Witness.{any_looks}
use Rattle.medium.specs.declared.file_call.Answered.{Answered}
use Rattle.medium.specs.declared.file_call.FileCall.{FileCall}
use Rattle.medium.specs.declared.file_call.FileCall.TheVariants.{Open, Lock, Measure, Resize, Read, Write, Sync}

-- a file that was asked nothing
abbrev pub just_opened : Told
just_opened = record { path = []; runs = []; size = 0; asked = []; refusals = 0; looks = any_looks }

looks_after : (good : Bool) (call : FileCall) (length : ℕ) (bytes : List ℕ) (t : Told)
    → (if good then after call length bytes t else t).looks ≡ t.looks
looks_after true (Open access) length bytes t = refl
looks_after true Lock length bytes t = refl
looks_after true Measure length bytes t = refl
looks_after true (Resize size) length bytes t = refl
looks_after true (Read at) length bytes t = refl
looks_after true (Write at) length bytes t = refl
looks_after true Sync length bytes t = refl
looks_after false call length bytes t = refl

pub looks_stay : (a : Answered) (bytes : List ℕ) (t : Told) → (noted a bytes t).looks ≡ t.looks
looks_stay a bytes t = looks_after a.good a.call a.length bytes t
