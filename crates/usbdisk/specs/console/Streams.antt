-- The bytes of a writer, where they are known.
use Rattle.std.specs.Prelude.{◌≡◌, ◌<◌, ◌++◌, ℕ, List, [], length, Option, Result, OnOk, OnErr}
use Rattle.std.specs.Io.KnownBytes.{Appends}

-- All of one text was written, and behind it a first part of these bytes, but not all of them.
pub record AppendsUpTo (was now : Option (List ℕ)) (text bytes : List ℕ) : Type 0 where
  pub written : List ℕ
  pub rest : List ℕ
  pub parts : bytes ≡ written ++ rest
  pub missing : 0 < length rest
  pub appended : Appends was now (text ++ written)

-- a first part of these bytes was written, but not all of them
abbrev pub AppendsSome : Option (List ℕ) → Option (List ℕ) → List ℕ → Type 0
AppendsSome was now bytes = AppendsUpTo was now [] bytes

-- All of these bytes were written, or only a first part and an error is told.
pub record WritesOut {E : Type 0} (was now : Option (List ℕ)) (bytes : List ℕ)
    (result : Result (Unit {0}) E) : Type 0 where
  pub ok : OnOk result (Appends was now bytes)
  pub err : OnErr result (AppendsSome was now bytes)
