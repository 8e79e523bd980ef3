-- The words of a command line.
use Rattle.std.specs.Prelude.{◌≢◌, ◌++◌, ℕ, List, codes}
use Rattle.journal.specs.declared.log_format.LogFormat.{LogFormat}
use Rattle.journal.specs.declared.log_format.LogFormat.TheVariants.{One, Two}

-- a word for a file does not begin with a hyphen
abbrev pub IsFileWord : List ℕ → Type 0
IsFileWord word = (rest : List ℕ) → word ≢ codes "-" ++ rest

-- the number of a format
abbrev pub format_word : LogFormat → List ℕ
format_word One = codes "1"
format_word Two = codes "2"
