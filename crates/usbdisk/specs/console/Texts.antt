-- The texts of answers.
use Rattle.std.specs.Prelude.{◌++◌, ◌∷◌, [], ℕ, Bool, true, false, List, codes}

-- a text and a line feed
abbrev pub ended : List ℕ → List ℕ
ended text = text ++ 10 ∷ []

-- what is told of an image that is of format 2 now: whether it was of format 1
abbrev pub migration_text : Bool → List ℕ
migration_text true = ended (codes "migrated")
migration_text false = ended (codes "already format 2")
