-- The entries of an index: numbers that rise, and the place of each one's block in the row.
use Rattle.std.specs.Prelude.{◌≡◌, ◌≤◌, ◌+◌, ◌*◌, ℕ, List, map, length, slice_range}
use Rattle.cache.specs.Order.{gathered, AreInOrder}
use Rattle.cache.specs.declared.entry.Entry.{Entry}
use Rattle.cache.specs.declared.index.Index.{Index}

abbrev pub no_entry : Entry
no_entry = record { number = 0; place = 0 }

abbrev pub numbers_of : List Entry → List ℕ
numbers_of entries = map (λ (entry : Entry). entry.number) entries

abbrev pub places_of : List Entry → List ℕ
places_of entries = map (λ (entry : Entry). entry.place) entries

-- the entries stand from the start up to the end
abbrev pub entries_of : Index → List Entry
entries_of index = slice_range index.cells.items index.start index.end

-- there is room for `room` entries on each side of the middle
pub record IsCentred (index : Index) (room : ℕ) : Type 0 where
  pub low : index.start ≤ room
  pub high : room ≤ index.end
  pub within : index.end ≤ index.start + room
  pub wide : length index.cells.items ≡ 2 * room

-- the i-th entry after the first one, where numbers and places follow each other
abbrev pub entry_after : Entry → ℕ → Entry
entry_after first i = record { number = first.number + i; place = first.place + i }

-- each number has the block that it had
pub record KeepsBlocks (old new : List Entry) (old_row new_row : List (List ℕ)) : Type 0 where
  pub gathered : gathered (places_of new) new_row ≡ gathered (places_of old) old_row
  pub numbers : numbers_of new ≡ numbers_of old

-- the same, and the blocks lie in the order of the entries; no more of them moved than there are
pub record PutsInOrder (old new : List Entry) (old_row new_row : List (List ℕ))
    (old_moves new_moves : ℕ) : Type 0 where
  pub keeps : KeepsBlocks old new old_row new_row
  pub in_order : AreInOrder (places_of new)
  pub few : new_moves ≤ old_moves + length (places_of old)
