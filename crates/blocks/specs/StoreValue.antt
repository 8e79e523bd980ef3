-- What a caller sees of a store, and which books it fits.
use Rattle.std.specs.Prelude.{◌≡◌, ◌⊎◌, ◌↔◌, ℕ, ◌+◌, ◌*◌, ◌^◌, ◌≤◌, ◌<◌, Bool, List, []}
use Rattle.std.specs.Prelude.{◌∷◌, length}
use Rattle.medium.specs.Medium.{State}
use Rattle.logical_blocks.specs.{Blocks.Array, Book.{Book, after_first, array_of}}
use Rattle.journal.specs.Places.{Shape, limit_of}
use Rattle.redo_log.specs.{Value.{LogValue, most_steps, most_retire_steps, entries_of}, Held.View}
use Rattle.redo_log.specs.Held.{HoldsView}
use Rattle.theorems.specs.Retiring.{wants, waiting}
use Rattle.cache.specs.{Blocks.{over, Listed, unlisted, InRange}, Entries.{Entries, map_of}}
use Rattle.blocks.specs.Book.{Same}

-- what a store keeps in memory
pub record Cached : Type 0 where
  pub log : LogValue
  -- the batch that takes writes
  pub active : Entries
  -- the batch that is on its way to the log
  pub frozen : Entries

pub record StoreValue (M : Type 0) : Type 0 where
  pub medium : M
  pub cached : Cached
  -- whether it retires ahead
  pub goes_ahead : Bool

-- the log's format, how many blocks and slots there are, and where block 0 is at home
abbrev pub layout_of : Cached → Shape
layout_of s = s.log.shape

abbrev pub blocks_of : Cached → ℕ
blocks_of s = (layout_of s).blocks

abbrev pub slots_of : Cached → ℕ
slots_of s = (layout_of s).slots

-- how many blocks a transfer, a batch and a record have at most
abbrev pub transfer_limit : Cached → ℕ
transfer_limit s = limit_of (layout_of s).format

-- how many steps a batch takes at most from its record's first call until that is retired
abbrev pub batch_steps : Cached → ℕ
batch_steps s =
    most_steps (layout_of s).format + most_retire_steps (layout_of s).format + 10

-- no write is accepted until the next start
abbrev pub is_dead : Cached → Bool
is_dead s = s.log.dead

-- the numbers of the blocks in the batch that takes writes
abbrev pub active_of : Cached → List ℕ
active_of s = s.active.numbers

-- how many blocks are in both batches
abbrev pub unwritten : Cached → ℕ
unwritten s = length s.active.numbers + length s.frozen.numbers

-- a batch that holds blocks takes `most` steps, and an empty one none
abbrev pub steps_for : ℕ → List ℕ → ℕ
steps_for most [] = 0
steps_for most (n ∷ numbers) = most

-- How many background steps are left at most: those of records begun, and of each batch to be one.
abbrev pub steps_left : Cached → ℕ
steps_left s = s.log.steps_left + s.log.retire_steps_left
    + waiting s.log.steps_left (steps_for (batch_steps s) s.frozen.numbers)
    + steps_for (batch_steps s) s.active.numbers

-- these numbers and those of the range are at most `limit` together
abbrev pub FitsBeside : ℕ → List ℕ → ℕ → ℕ → Type 0
FitsBeside limit numbers address count = length numbers + unlisted numbers address count ≤ limit

-- The active batch after a write: it takes the range up where both fit, and else has it alone.
pub record TakesRange (limit : ℕ) (old : List ℕ) (address count : ℕ) (new : List ℕ) : Type 0 where
  pub beside : FitsBeside limit old address count
      → (n : ℕ) → Listed new n ↔ (Listed old n ⊎ InRange address count n)
  pub alone : ¬ FitsBeside limit old address count
      → (n : ℕ) → Listed new n ↔ InRange address count n

-- what is true of every store, live or dead
pub record HasLimits (s : Cached) : Type 0 where
  pub some_blocks : 1 ≤ blocks_of s
  pub most_blocks : blocks_of s ≤ 2 ^ 31
  pub least_limit : 48 ≤ transfer_limit s
  pub most_limit : transfer_limit s ≤ 240
  pub active_fits : length (active_of s) ≤ transfer_limit s
  pub few_steps : steps_left s ≤ (slots_of s + 4) * (2 * transfer_limit s + 16)

-- Three arrays are those of a book after some of its first writes, after more of them, and after
-- all. The first ones hold each write that is promised.
pub record ShowsBook (book : Book) (floor_count middle_count : ℕ) (floor middle now : Array)
    : Type 0 where
  pub promises : book.mark ≤ floor_count
  pub rises : floor_count ≤ middle_count
  pub accepted : middle_count ≤ length book.writes
  pub floor_is : Same book.blocks floor (after_first floor_count book)
  pub middle_is : Same book.blocks middle (after_first middle_count book)
  pub now_is : Same book.blocks now (array_of book)

-- A store shows what is durable, that with the frozen batch, and that with the active one too. It
-- fits a book of which they are the array after some of the first writes, after more, and all.
pub record FitsBook (m : State) (s : Cached) (book : Book) : Type 0 where
  -- what the log and the medium hold
  pub view : View
  pub holds : HoldsView s.log m view
  -- the record under way is the frozen batch
  pub under_way : 0 < s.log.steps_left → view.under_way ≡ entries_of s.frozen.numbers s.frozen.bytes
  pub some : 0 < s.log.steps_left → wants s.frozen.numbers ≡ 1
  pub blocks : s.log.shape.blocks ≡ book.blocks
  -- how many writes are durable, and how many with those in the frozen batch
  pub floor_count : ℕ
  pub middle_count : ℕ
  pub arrays : ShowsBook book floor_count middle_count view.array
      (over (map_of s.frozen) view.array)
      (over (map_of s.active) (over (map_of s.frozen) view.array))
  -- there is a stamp for each batch, behind the durable records', among those the writes allow
  pub stamps : s.log.head + length s.log.waiting + wants s.frozen.numbers + wants s.active.numbers
      ≤ book.stamp + length book.writes
  pub ours : view.ours ≡ book.ours
