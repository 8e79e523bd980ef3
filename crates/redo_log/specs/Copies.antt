-- The bytes of the blocks of records that are kept in memory, and the memory for them.
use Rattle.std.specs.Prelude.{ℕ, ◌+◌, ◌≤◌, ◌<◌, List, map, take, length, All, Bool, vec_capacity}
use Rattle.std.specs.VecDeque.{deque_capacity}
use Rattle.redo_log.specs.{Value.with_copy, declared.copies.Copies.TheInside.Inside}
use Rattle.redo_log.specs.declared.copies.Memory.{Memory}

-- what a caller sees of them
pub record CopiesValue : Type 0 where
  -- whether any are kept
  pub keeps : Bool
  -- of how many records at most
  pub ring : ℕ
  -- how many bytes of each there is room for
  pub most : ℕ
  -- those of each record, the oldest first
  pub kept : List (List ℕ)

-- the bytes of the record that stand in this memory
abbrev pub record_in : Memory → List ℕ
record_in memory = take memory.length memory.bytes.items

-- those that stand in each of these
abbrev pub bytes_in : List Memory → List (List ℕ)
bytes_in memories = map record_in memories

-- each of these has room for so many bytes
abbrev pub HaveRoom : ℕ → List Memory → Type 0
HaveRoom most = All (λ m. most ≤ length m.bytes.items)

-- what a caller sees of the fields
abbrev pub copies_of : Inside → CopiesValue
copies_of i = record {
  keeps = i.keeps;
  ring = length i.kept.items + length i.spare.items;
  most = i.most;
  kept = bytes_in i.kept.items;
}

-- What is true of the fields: each record takes memory from those that are spare, and gives it
-- back.
pub record HasMemory (i : Inside) : Type 0 where
  pub taken : HaveRoom i.most i.kept.items
  pub spare : HaveRoom i.most i.spare.items
  pub back : length i.kept.items + length i.spare.items ≤ vec_capacity i.spare
  pub room : length i.kept.items + length i.spare.items ≤ deque_capacity i.kept

-- there is room for the bytes of one more record
pub record HasPlace (bytes : List ℕ) (copies : CopiesValue) : Type 0 where
  pub free : length copies.kept < copies.ring
  pub few : length bytes ≤ copies.most

-- those of one more record are kept behind the others
abbrev pub with_kept : List ℕ → CopiesValue → CopiesValue
with_kept bytes copies = record copies { kept = with_copy copies.keeps bytes copies.kept }
