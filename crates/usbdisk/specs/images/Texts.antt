-- The texts of answers.
use Rattle.std.specs.Prelude.{◌++◌, ℕ, List, codes, decimal}

-- a word with a space behind it, and how many blocks there were
abbrev pub blocks_text : List ℕ → ℕ → List ℕ
blocks_text word blocks = word ++ decimal blocks ++ codes " blocks\n"
