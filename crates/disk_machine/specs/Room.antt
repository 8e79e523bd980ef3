-- How many calls an outbox must have room for, and how much memory a disk takes.
use Rattle.std.specs.Prelude.{◌≡◌, ◌≢◌, ◌≤◌, ◌<◌, ◌⊎◌, ℕ, ◌+◌, ◌*◌}
use Rattle.journal.specs.{Places.{Shape, limit_of}, Sectors.version_of}
use Rattle.journal.specs.declared.log_format.LogFormat.{TheVariants.{One, Two}, LogFormat}
use Rattle.store_calls.specs.Rooms.{most_left}

-- As many calls as steps leave there: each is made while 63 wait at most, and makes two at most. No
-- other event asks the device for anything.
abbrev pub room_of : LogFormat → ℕ
room_of format = most_left

-- that of an image
abbrev pub room_for : Shape → ℕ
room_for shape = room_of shape.format

-- a log may have `slots` slots
abbrev pub AreSlots : ℕ → Type 0
AreSlots slots = (1 ≤ slots) × (slots ≤ 64)

-- no image has a format of this number, or no log has `slots` slots
abbrev pub AreNone : ℕ → ℕ → Type 0
AreNone format slots = ((format ≢ 1) × (format ≢ 2)) ⊎ (slots ≡ 0) ⊎ (64 < slots)

-- what is told of an image: for each of the two formats this number
pub record Tells (of : LogFormat → ℕ) (format slots told : ℕ) : Type 0 where
  pub one : format ≡ 1 → AreSlots slots → told ≡ of One
  pub two : format ≡ 2 → AreSlots slots → told ≡ of Two

-- 0 is told where there is no such image
abbrev pub TellsNone : ℕ → ℕ → ℕ → Type 0
TellsNone format slots told = AreNone format slots → told ≡ 0

-- How many bytes each record takes that may stand in the log, by measure: its numbers, its blocks
-- and where they lie, for each block an entry of the index, and in format 2 the first bytes of them
-- once more.
abbrev pub record_memory : LogFormat → ℕ
record_memory format = 1928 * version_of format + 520 * limit_of format + 64

-- How many bytes of memory a start takes, by measure, of a disk that keeps the blocks of `ring`
-- records: the first sectors, the window, the outbox, two batches and a buffer of a transfer each,
-- what each record takes, and the disk.
abbrev pub memory_of : ℕ → ℕ → ℕ → ℕ → LogFormat → ℕ
memory_of size ring span room format =
    size + 512 * span + 528 * room + 1584 * limit_of format + record_memory format * ring + 920
