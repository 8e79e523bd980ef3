-- The lines of a script, and the words of a line.
use Rattle.std.specs.{Prelude.{ℕ, List, [], ◌==◌, Option, Some, None}, Borrow.Bor, List.slice_split}

-- the parts between one separator and the next; what stands after the last one is a part too,
-- perhaps an empty one
abbrev pub parts_of : ℕ → List ℕ → List (List ℕ)
parts_of separator bytes = slice_split (λ byte. byte == separator) bytes

-- lines are parted by line feeds
abbrev pub lines_of : List ℕ → List (List ℕ)
lines_of script = parts_of 10 script

-- words are parted by one space
abbrev pub words_of : List ℕ → List (List ℕ)
words_of text = parts_of 32 text

-- the parts of the bytes that are left, and none after the last
abbrev pub parts_in : ℕ → Option (Bor (List ℕ)) → List (List ℕ)
parts_in separator None = []
parts_in separator (Some bytes) = parts_of separator bytes.now
