-- The entries of an index as two lists.
use Rattle.std.proofs.Common.{◌≡◌, ℕ, ◌+◌, ◌-◌, ◌<◌, ◌≤◌, List, length, get_or, set, arith}
use Rattle.std.specs.Prelude.{slice_range}
use Rattle.std.specs.List.{insert}
use Rattle.std.proofs.lemmas.Grind.{elements}
use Rattle.std.proofs.lemmas.List.{length-map, map-append, take-map, drop-map, ext_get_or}
use Rattle.std.proofs.lemmas.List.Edits.{length-between}
use Rattle.cache.specs.Index.{no_entry, numbers_of, places_of, entries_of}
use Rattle.cache.specs.declared.entry.Entry.{Entry}
use Rattle.cache.specs.declared.index.Index.{Index}

pub length-numbers : (entries : List Entry) → length (numbers_of entries) ≡ length entries
length-numbers entries = length-map entries (λ (e : Entry). e.number)

pub length-places : (entries : List Entry) → length (places_of entries) ≡ length entries
length-places entries = length-map entries (λ (e : Entry). e.place)

pub numbers-insert : (entries : List Entry) (p : ℕ) (x : Entry) → numbers_of (insert entries p x) ≡ insert (numbers_of entries) p x.number
numbers-insert entries p x = simp (map-append, take-map, drop-map)

pub places-insert : (entries : List Entry) (p : ℕ) (x : Entry) → places_of (insert entries p x) ≡ insert (places_of entries) p x.place
places-insert entries p x = simp (map-append, take-map, drop-map)

pub length_entries : (index : Index) → index.end ≤ length index.cells.items → length (entries_of index) ≡ index.end - index.start
length_entries index inside = length-between index.cells.items index.start index.end inside

-- Where the cells before a place are those of before, and those behind it are theirs one place on, an entry that is written between them
-- was inserted there.
pub inserted : (old new : Index) (at : ℕ) (x : Entry) → old.end ≤ length old.cells.items → at ≤ old.end - old.start
    → new.end ≤ length new.cells.items → new.end ≡ new.start + (old.end - old.start) + 1
    → ((k : ℕ) → k < at → get_or new.cells.items (new.start + k) no_entry ≡ get_or old.cells.items (old.start + k) no_entry)
    → ((k : ℕ) → at < k → k ≤ old.end - old.start
    → get_or new.cells.items (new.start + k) no_entry ≡ get_or old.cells.items (old.start + (k - 1)) no_entry)
    → slice_range (set new.cells.items (new.start + at) x) new.start new.end ≡ insert (entries_of old) at x
inserted old new at x inside within room longer before behind =
    ext_get_or no_entry _ _ (grind (arith, elements)) (λ k h. grind (arith, elements, before k, behind k))
