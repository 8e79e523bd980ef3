-- Entries that were laid behind all others, and their blocks in the row.
use Rattle.std.proofs.Common.{◌≡◌, ℕ, zero, suc, ◌+◌, ◌*◌, ◌/◌, ◌<◌, ◌≤◌, drop, List, [], length, take, get_or, sym, refl, arith}
use Rattle.std.specs.List.{insert}
use Rattle.std.proofs.lemmas.Grind.{elements}
use Rattle.std.proofs.lemmas.List.{ext_get_or, take_all, take_more, length-take-le, length-drop, map-append, take-map, drop-map}
use Rattle.std.proofs.lemmas.List.Edits.{insert_end}
use Rattle.cache.specs.Blocks.{block_at, blocks_of, with_range}
use Rattle.cache.specs.Entries.{PutsOver}
use Rattle.cache.specs.Index.{no_entry, numbers_of, places_of, entries_of, entry_after}
use Rattle.cache.specs.Order.{gathered, IsWrittenFrom, ArePlaces}
use Rattle.cache.specs.Places.{joined, ArePaired, WouldStandAt}
use Rattle.cache.specs.View.{CanAppend, Becomes}
use Rattle.cache.specs.declared.entry.Entry.{Entry}
use Rattle.cache.specs.declared.parts.Parts.{Parts}
use Rattle.cache.proofs.Columns.{length-numbers, length-places, length_entries, numbers-insert, places-insert}
use Rattle.cache.proofs.Kept.{keeps, well_formed}
use Rattle.cache.proofs.Maps.{inserted}
use Rattle.cache.proofs.Neighbours.{all_missing}
use Rattle.cache.proofs.Order.{cells, ArePlaces-insert}
use Rattle.cache.proofs.Ranges.{one_more}

-- the entries after count of them were laid behind the old ones
pub record AreBehind (old new : List Entry) (row row' : List (List ℕ)) (number count : ℕ) (bytes : List ℕ) : Type 0 where
  pub paired : ArePaired (numbers_of new) (gathered (places_of new) row')
  pub placed : ArePlaces (places_of new)
  pub smaller : (k : ℕ) → k < length new → get_or (numbers_of new) k 0 < number + count
  pub map : (b : ℕ) → blocks_of (numbers_of new) (joined (gathered (places_of new) row')) b
      ≡ with_range (blocks_of (numbers_of old) (joined (gathered (places_of old) row))) number count bytes b

module _ (old new : List Entry) (row row' : List (List ℕ)) (number count : ℕ) (bytes : List ℕ)
    (paired : ArePaired (numbers_of old) (gathered (places_of old) row)) (placed : ArePlaces (places_of old))
    (smaller : (k : ℕ) → k < length (numbers_of old) → get_or (numbers_of old) k 0 < number) (long : length new ≡ length old + count)
    (stay : (k : ℕ) → k < length old → get_or new k no_entry ≡ get_or old k no_entry)
    (follow : (i : ℕ) → i < count → get_or new (length old + i) no_entry ≡ record { number = number + i; place = length old + i })
    (row_stays : (k : ℕ) → k < length old → get_or row' k [] ≡ get_or row k [])
    (row_follows : (i : ℕ) → i < count → get_or row' (length old + i) [] ≡ block_at bytes i)
    (sized : (i : ℕ) → i < count → length (block_at bytes i) ≡ 512) where
  behind : (i : ℕ) → i ≤ count → AreBehind old (take (length old + i) new) row row' number i bytes
  behind zero le =
      let all : length old + 0 ≡ length old = omega arith in
      let first : take (length old) new ≡ old =
      ext_get_or no_entry _ _ (grind (arith, elements)) (λ k h. grind (arith, elements, stay k)) in
      let n = length-places old in
      let same : gathered (places_of old) row' ≡ gathered (places_of old) row =
      ext_get_or [] _ _ (grind (arith, cells)) (λ k h. grind (arith, cells, placed.inside k, row_stays (get_or (places_of old) k 0))) in
      rw (all, first) (record {
        paired = rw same paired;
        placed = placed;
        smaller = λ k lt. omega (arith, smaller k, length-numbers old);
        map = λ b. rw same (grind arith);
      })
  behind (suc i) le =
      let was = behind i (omega arith) in
      let n : ℕ = length old + i in
      let entries : List Entry = take n new in
      let all : length entries ≡ n = length-take-le n new (omega arith) in
      let next : length old + suc i ≡ n + 1 = omega arith in
      let entry : Entry = record { number = number + i; place = n } in
      let more : take (n + 1) new ≡ insert entries n entry =
      rw (take_more new n no_entry (omega arith), follow i le) (rw all at (sym (insert_end entries entry))) in
      let would : WouldStandAt (numbers_of entries) (number + i) n = record {
        inside = omega (arith, length-numbers entries);
        before = λ k lt. was.smaller k (omega arith);
        past = λ k from h. absurd (omega (arith, length-numbers entries));
      } in
      let put = inserted _ (gathered (places_of entries) row') (number + i) n (block_at bytes i) was.paired would (sized i le) in
      let numbers = numbers-insert entries n entry in
      let places = places-insert entries n entry in
      let blocks : gathered (places_of (insert entries n entry)) row' ≡ insert (gathered (places_of entries) row') n (block_at bytes i) =
      rw (places, ← row_follows i le) (simp (map-append, take-map, drop-map)) in
      let one : suc i ≡ i + 1 = omega arith in
      rw (next, more, one) (record {
        paired = rw (blocks, numbers) put.paired;
        placed = rw places (grind (arith, ArePlaces-insert, was.placed, length-places entries));
        smaller = λ k lt. rw numbers (grind (arith, elements, was.smaller k));
        map = λ b. rw (blocks, numbers) (one_more _ _ _ number i _ bytes refl was.map put.map b);
      })

  pub put_behind : AreBehind old new row row' number count bytes
  put_behind = let all = take_all (length old + count) new (omega arith) in rw all at (behind count (omega arith))

-- count blocks were put behind all others
pub appends : (old new : Parts) (number : ℕ) (bytes : List ℕ) → CanAppend old number (length bytes / 512)
    → IsWrittenFrom old.index.cells.items new.index.cells.items old.index.end (length bytes / 512)
    (entry_after (record { number = number; place = length (entries_of old.index) })) no_entry
    → IsWrittenFrom old.row.items new.row.items (length (entries_of old.index)) (length bytes / 512) (block_at bytes) []
    → new.index.start ≡ old.index.start → new.index.end ≡ old.index.end + length bytes / 512
    → length new.index.cells.items ≡ length old.index.cells.items → length new.row.items ≡ length old.row.items
    → new.room ≡ old.room → new.numbers ≡ old.numbers → Becomes (PutsOver number (length bytes / 512) bytes) old new
appends old new number bytes can entries blocks start_is end_is cells_stay row_stays room_is numbers_are =
    let kept = can.kept in
    let n = length_entries old.index in
    let n' = length_entries new.index in
    let m = length-numbers (entries_of old.index) in
    let m' = length-numbers (entries_of new.index) in
    let missing = all_missing _ number (length bytes / 512) kept.paired.rising can.behind in
    let more : length (numbers_of (entries_of new.index)) ≡ length (numbers_of (entries_of old.index)) + length bytes / 512 =
    omega (arith, kept, can.room) in
    let put = put_behind (entries_of old.index) (entries_of new.index) old.row.items new.row.items number (length bytes / 512) bytes
    kept.paired kept.placed can.behind.before (omega (arith, kept, can.room))
    (λ k lt. grind (arith, elements, start_is, end_is, entries.before (old.index.start + k)))
    (λ i lt. grind (arith, elements, start_is, end_is, entries.written i))
    blocks.before blocks.written
    (λ i lt. length-take-le 512 (drop (512 * i) bytes) (omega (arith, length-drop (512 * i) bytes))) in
    let after = keeps old new kept room_is numbers_are (omega (arith, kept)) (grind (arith, kept, can.room)) put.paired put.placed
    (omega (arith, more, can.room)) in
    record {
      kept = after;
      puts = record { well_formed = well_formed new after; map = put.map; count = cc (more, missing); room_stays = room_is };
    }
