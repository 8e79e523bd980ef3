-- Command status wrappers, as bytes.
use Rattle.std.specs.Prelude.{ℕ, List, [], ◌∷◌, ◌++◌}
use Rattle.byteorder.specs.Endian.{little_bytes}
use Rattle.spec.specs.declared.status.Status.{Status}
use Rattle.spec.specs.declared.status.Status.TheVariants.{Passed, Failed, PhaseError}

-- "USBS"
abbrev pub status_signature : List ℕ
status_signature = 0x55 ∷ 0x53 ∷ 0x42 ∷ 0x53 ∷ []

-- the byte that stands for a status
abbrev pub code_of : Status → ℕ
code_of Passed = 0
code_of Failed = 1
code_of PhaseError = 2

-- the 13 bytes that tell the residue and the status of the command with this tag
unfoldable pub status_wrapper : ℕ → ℕ → Status → List ℕ
status_wrapper tag residue status =
    status_signature ++ little_bytes 4 tag ++ little_bytes 4 residue ++ code_of status ∷ []
