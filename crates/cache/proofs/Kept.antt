-- The facts of a batch as it is kept.
use Rattle.std.proofs.Common.{◌≡◌, ℕ, ◌+◌, ◌*◌, List, [], ◌∷◌, length, get_or, arith, refl, suc, ◌<◌, ◌≤◌}
use Rattle.std.proofs.lemmas.List.{length-append}
use Rattle.cache.specs.Entries.{IsWellFormed, PutsBlock}
use Rattle.cache.specs.Index.{numbers_of, places_of, entries_of, IsCentred}
use Rattle.cache.specs.Order.{gathered, ArePlaces}
use Rattle.cache.specs.Places.{joined, ArePaired}
use Rattle.cache.specs.Blocks.{absent}
use Rattle.cache.specs.View.{view_of, Invariant, Becomes}
use Rattle.cache.specs.declared.parts.Parts.{Parts}
use Rattle.cache.proofs.Maps.{PutsEntry}

-- blocks of 512 bytes, one after the other
length-joined : (blocks : List (List ℕ)) → ((k : ℕ) → k < length blocks → length (get_or blocks k []) ≡ 512)
    → length (joined blocks) ≡ 512 * length blocks
length-joined [] sized = refl
length-joined (block ∷ blocks) sized =
    let size : length block ≡ 512 = sized 0 (omega arith) in
    let more = length-joined blocks (λ k h. sized (suc k) (omega arith)) in
    omega (arith, length-append block (joined blocks))

-- a batch as it is kept is well-formed
pub well_formed : (parts : Parts) → Invariant parts → IsWellFormed (view_of parts)
well_formed parts kept = record {
  rising = kept.paired.rising;
  sized = omega (arith, length-joined _ (λ k h. kept.paired.sized k [] h), kept.paired.alike);
  within = kept.within;
}

-- parts that have become others are kept, where their entries and blocks are good and have room
pub keeps : (old new : Parts) → Invariant old → new.room ≡ old.room → new.numbers ≡ old.numbers → length new.row.items ≡ old.room
    → IsCentred new.index old.room
    → ArePaired (numbers_of (entries_of new.index)) (gathered (places_of (entries_of new.index)) new.row.items)
    → ArePlaces (places_of (entries_of new.index)) → length (numbers_of (entries_of new.index)) ≤ old.room → Invariant new
keeps old new kept room_is numbers_are wide centred paired placed within = record {
  paired = paired;
  placed = placed;
  within = omega arith;
  centred = rw room_is centred;
  reserved_numbers = rw (room_is, numbers_are) kept.reserved_numbers;
  narrow = omega (arith, kept.narrow);
  whole_row = omega arith;
}

-- one block was put at its number
pub becomes : (old new : Parts) (number : ℕ) (block : List ℕ) → Invariant old
    → length (numbers_of (entries_of old.index)) + absent (numbers_of (entries_of old.index)) number ≤ old.room
    → new.room ≡ old.room → new.numbers ≡ old.numbers → length new.row.items ≡ old.room → IsCentred new.index old.room
    → ArePlaces (places_of (entries_of new.index))
    → PutsEntry number block (numbers_of (entries_of old.index)) (numbers_of (entries_of new.index))
    (gathered (places_of (entries_of old.index)) old.row.items) (gathered (places_of (entries_of new.index)) new.row.items)
    → Becomes (PutsBlock number block) old new
becomes old new number block kept fits room_is numbers_are wide centred placed put =
    let after = keeps old new kept room_is numbers_are wide centred put.paired placed (omega (arith, put.count)) in
    record { kept = after; puts = record { well_formed = well_formed new after; map = put.map; count = put.count; room_stays = room_is } }
