-- How a batch is kept.
use Rattle.std.specs.Prelude.{◌≡◌, ◌≤◌, ◌+◌, ◌^◌, ℕ, List, length, vec_capacity}
use Rattle.cache.specs.Entries.{Entries}
use Rattle.cache.specs.Index.{numbers_of, places_of, entries_of, IsCentred}
use Rattle.cache.specs.Order.{gathered, ArePlaces, AreInOrder}
use Rattle.cache.specs.Places.{ArePaired, HasPlace, CanPutBlock, joined}
use Rattle.cache.specs.declared.parts.Parts.{Parts}

abbrev pub view_of : Parts → Entries
view_of parts = record {
  room = parts.room;
  numbers = numbers_of (entries_of parts.index);
  bytes = joined (gathered (places_of (entries_of parts.index)) parts.row.items);
}

pub record Invariant (parts : Parts) : Type 0 where
  pub paired : ArePaired (numbers_of (entries_of parts.index))
      (gathered (places_of (entries_of parts.index)) parts.row.items)
  pub placed : ArePlaces (places_of (entries_of parts.index))
  pub within : length (numbers_of (entries_of parts.index)) ≤ parts.room
  pub centred : IsCentred parts.index parts.room
  pub reserved_numbers : parts.room ≤ vec_capacity parts.numbers
  -- a batch has room for no more blocks than this
  pub narrow : parts.room ≤ 2 ^ 16
  pub whole_row : length parts.row.items ≡ parts.room

-- parts are kept, and their blocks have become others in this way
pub record Becomes (How : Entries → Entries → Type 0) (old new : Parts) : Type 0 where
  pub kept : Invariant new
  pub puts : How (view_of old) (view_of new)

-- a number and its place
pub record IsPlaced (parts : Parts) (number place : ℕ) : Type 0 where
  pub kept : Invariant parts
  pub has : HasPlace (numbers_of (entries_of parts.index)) number place

-- a block of 512 bytes may be put at a number whose place is known
pub record CanPutAt (parts : Parts) (number place : ℕ) (block : List ℕ) : Type 0 where
  pub kept : Invariant parts
  pub can : CanPutBlock (numbers_of (entries_of parts.index)) parts.room number place block

-- count blocks may be put from this number on, which is greater than all others
pub record CanAppend (parts : Parts) (number count : ℕ) : Type 0 where
  pub kept : Invariant parts
  pub behind : HasPlace (numbers_of (entries_of parts.index)) number
      (length (numbers_of (entries_of parts.index)))
  pub small : number + count ≤ 2 ^ 31
  pub room : length (numbers_of (entries_of parts.index)) + count ≤ parts.room

-- the blocks lie in the order of their numbers, which are told
pub record IsArranged (parts : Parts) : Type 0 where
  pub kept : Invariant parts
  pub in_order : AreInOrder (places_of (entries_of parts.index))
  pub told : parts.numbers.items ≡ numbers_of (entries_of parts.index)

-- they lie so, and are those of this batch
pub record AreArranged (batch : Entries) (parts : Parts) : Type 0 where
  pub arranged : IsArranged parts
  pub value : view_of parts ≡ batch
