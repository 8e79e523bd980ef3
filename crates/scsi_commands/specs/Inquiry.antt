-- INQUIRY data: standard data and vital product data pages (SPC-4, 6.6 and 7.8; SBC-3, block limits
-- page).
use Rattle.std.specs.Prelude.{◌≡◌, ℕ, ◌+◌, ◌≤◌, List, drop, slice_index, Option, Some, None}
use Rattle.byteorder.specs.Endian.{big_number}

-- how many bytes there are by the count that the data hold themselves: in standard data what
-- follows byte 4, in a page what follows byte 3
abbrev pub told_size : Option ℕ → List ℕ → ℕ
told_size None bytes = 5 + slice_index bytes 4
told_size (Some code) bytes = 4 + big_number 2 (drop 2 bytes)

-- a buffer stays as it was from a place on
abbrev pub StaysFrom : ℕ → List ℕ → List ℕ → Type 0
StaysFrom place old new = (k : ℕ) → place ≤ k → slice_index new k ≡ slice_index old k
