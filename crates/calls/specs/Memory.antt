-- How much memory a disk takes, and the work on an image.
use Rattle.std.specs.Prelude.{◌≡◌, ◌⊎◌, ◌<◌, ℕ, ◌+◌, ◌*◌}
use Rattle.journal.specs.declared.log_format.LogFormat.{LogFormat}
use Rattle.store_calls.specs.Supers.{span_of}
use Rattle.disk_machine.specs.Room as disk
use Rattle.disk_machine.specs.Room.{room_of, Tells, TellsNone, AreSlots}
use Rattle.journal.specs.Places.{slot_sectors_of}
use Rattle.journal.specs.declared.log_format.LogFormat.TheVariants.{One}
use Rattle.recovery.specs.Recovered.{most_migration_sends}
use Rattle.image_calls.specs.Formats.{most_of_part}
use Rattle.calls.specs.Kept.{ring_of}

-- By measure, where so many records may stand in the log at once: the super, what the disk keeps in
-- view, the outbox, and 72 bytes more than the disk takes, for what the handle may hold beside it.
abbrev pub memory_on : LogFormat → ℕ → ℕ
memory_on format ring = disk.memory_of 512 ring (span_of format) (room_of format) format + 72

abbrev pub TellsMemory : ℕ → ℕ → ℕ → ℕ → Type 0
TellsMemory format slots kept told =
    Tells (λ (kind : LogFormat). memory_on kind (ring_of kept slots)) format slots told
    × TellsNone format slots told

-- By measure, of work that has read so many sectors, and of which so many calls wait at most:
-- these, and what the box behind a handle takes.
abbrev pub memory_of_work : ℕ → ℕ → ℕ
memory_of_work read waiting = 512 * read + 528 * waiting + 992

-- an image is made, or a log laid: sector 0 is read, and a part waits at a time
abbrev pub TellsMemoryToFormat : ℕ → ℕ → ℕ → Type 0
TellsMemoryToFormat format slots told =
    Tells (λ (kind : LogFormat). memory_of_work 1 most_of_part) format slots told
    × TellsNone format slots told

-- An image of format 1 is migrated: all before home is read, and all that a migration sends waits.
pub record TellsMemoryToMigrate (slots told : ℕ) : Type 0 where
  pub some : AreSlots slots → told ≡ memory_of_work (2 + slot_sectors_of One * slots)
      (most_migration_sends One slots)
  pub none : (slots ≡ 0) ⊎ (64 < slots) → told ≡ 0
