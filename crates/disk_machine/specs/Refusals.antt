-- Nothing that a disk asks of its medium is refused: no write and no flush for want of room, and no
-- read of a sector that is not in sight.
use Rattle.std.specs.Prelude.{◌≡◌, ◌⊎◌, ◌+◌, ◌≤◌, length, true, Some}
use Rattle.journal.specs.Places.{first_home}
use Rattle.scsi_unit.specs.declared.reading.HomeSectors.{HomeSectors}
use Rattle.disk_machine.specs.Seen.{Disk, layout_on, medium_of, most_sends, needed_home}
use Rattle.disk_machine.specs.Wanted.{AreInSight}
-- handed on: that no call was refused from one moment to another
pub use Rattle.store_calls.specs.Rooms.{RefusesNothing}

-- the log keeps the blocks of its records, and none is read back; or all sectors before the first
-- home sector lie in memory
abbrev pub HoldsLog : Disk → Type 0
HoldsLog disk = (disk.disk.unit.store.cached.log.keeps ≡ true)
    ⊎ (first_home (layout_on disk) ≤ (medium_of disk).near)

-- the home sectors that the next step reads are in sight
abbrev pub SeesHome : Disk → Type 0
SeesHome disk = (home : HomeSectors) → needed_home disk ≡ Some home
    → AreInSight (medium_of disk) home

-- the outbox has room, beside what waits, for the next step
abbrev pub HasRoomForStep : Disk → Type 0
HasRoomForStep disk = length (medium_of disk).outbox + most_sends disk ≤ (medium_of disk).room

-- No step misses. With the room, the log or the blocks of its records in memory, and what it reads
-- in sight, it has no call refused. No other event asks the medium for anything.
abbrev pub StepRefusesNothing : Disk → Disk → Type 0
StepRefusesNothing old new = RefusesNothing (HasRoomForStep old) (HoldsLog old × SeesHome old)
    (medium_of old) (medium_of new)
