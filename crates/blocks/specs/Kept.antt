-- What is true of the fields of every store.
use Rattle.std.specs.Prelude.{◌≡◌, ℕ, ◌+◌, ◌*◌, ◌≤◌, ◌<◌, Bool, true, false, [], length, get_or}
use Rattle.journal.specs.{Formats.shape_of, declared.super_sector.Super.Super, Places.Shape}
use Rattle.journal.specs.Places.{limit_of, sectors_of}
use Rattle.redo_log.specs.Value.{LogValue, most_steps, most_retire_steps}
use Rattle.theorems.specs.Ahead.{may_go_by}
use Rattle.cache.specs.{Blocks.Listed, Entries.{Entries, IsWellFormed}}
use Rattle.blocks.specs.StoreValue.{Cached}

-- a batch has room for as many blocks as a record has at most, each one of the store's
pub record IsBatchOf (shape : Shape) (batch : Entries) : Type 0 where
  pub well_formed : IsWellFormed batch
  pub room : batch.room ≡ limit_of shape.format
  pub inside : (n : ℕ) → Listed batch.numbers n → n < shape.blocks

-- the bytes that the log keeps of the record under way, behind those of each record that waits, are
-- those of the frozen batch
pub record HasCopy (log : LogValue) (frozen : Entries) : Type 0 where
  pub count : length log.copies ≡ length log.waiting + 1
  pub last : get_or log.copies (length log.waiting) [] ≡ frozen.bytes

-- the log and the batches of a store over a medium of `size` sectors, with these sizes, whether a
-- record is under way, and whether the store goes ahead
pub record Invariant (size : ℕ) (sizes : Super) (cached : Cached) (writing ahead : Bool)
    : Type 0 where
  pub shape : cached.log.shape ≡ shape_of sizes
  pub fits : sectors_of cached.log.shape ≤ size
  pub active : IsBatchOf cached.log.shape cached.active
  pub frozen : IsBatchOf cached.log.shape cached.frozen
  pub writes : cached.log.dead ≡ false → writing ≡ true → 0 < cached.log.steps_left
  pub rests : cached.log.dead ≡ false → writing ≡ false → cached.log.steps_left ≡ 0
  -- the record under way is the frozen batch
  pub under_way : cached.log.dead ≡ false → 0 < cached.log.steps_left
      → cached.log.under_way ≡ cached.frozen.numbers
  -- so are its bytes, where the log keeps them; else it keeps those of each record that waits
  pub copies : cached.log.dead ≡ false → cached.log.keeps ≡ true → cached.log.steps_left ≡ 0
      → length cached.log.copies ≡ length cached.log.waiting
  pub copy : cached.log.dead ≡ false → cached.log.keeps ≡ true → 0 < cached.log.steps_left
      → HasCopy cached.log cached.frozen
  pub none_under_way : cached.log.dead ≡ false → cached.log.steps_left ≡ 0
      → cached.log.under_way ≡ []
  pub some_ring : 1 ≤ cached.log.ring
  pub ring : cached.log.next ≤ cached.log.head + cached.log.ring
  pub some : 0 < cached.log.steps_left → 0 < length cached.frozen.numbers
  pub few_steps : cached.log.steps_left ≤ most_steps cached.log.shape.format
  pub few_retire_steps : cached.log.retire_steps_left
      ≤ most_retire_steps cached.log.shape.format * cached.log.shape.slots
  -- a record that is under way has to be retired later
  pub owes : 0 < cached.log.steps_left → 0 < cached.log.retire_steps_left
  pub policy : ahead ≡ true → may_go_by cached.log.shape.format cached.log.ring ≡ true
