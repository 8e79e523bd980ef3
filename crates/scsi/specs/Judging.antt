-- Tests in order: the first one that is not passed gives the sense.
use Rattle.std.specs.Prelude.{Bool, List, [], ◌∷◌, Result, Ok, Err, if◌then◌else◌}
use Rattle.scsi.specs.Sense.{Sense}

-- a test, and the sense of a block that does not pass it
pub record Test : Type 0 where
  pub passed : Bool
  pub sense : Sense

-- something must hold, and this is the sense where it does not
abbrev pub must : Bool → Sense → Test
must holds sense = record { passed = holds; sense = sense }

-- the value where each test is passed, else the sense of the first one that is not
abbrev pub judged : {A : Type 0} → List Test → A → Result A Sense
judged [] value = Ok value
judged (test ∷ tests) value = if test.passed then judged tests value else Err test.sense
