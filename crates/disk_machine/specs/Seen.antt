-- What is seen of a disk over a medium that reads on demand.
use Rattle.std.specs.Prelude.{ℕ, Bool, Option, Some, None}
use Rattle.journal.specs.Places.{Shape}
use Rattle.window.specs.Window.{Window}
use Rattle.scsi_unit.specs.{Background.is_dead, Starting.layout_of, Reading.first_home_of}
use Rattle.scsi_unit.specs.{Reading.home_sectors_of, Pending.{read_for, sends_for}}
use Rattle.scsi_unit.specs.{declared.reading.HomeSectors.HomeSectors, UnitValue.UnitValue}
use Rattle.bot_machine.specs.{DiskValue.DiskValue, declared.pending.Pending.Pending}
use denote.RattleType.{RattleType}
use Rattle.bot_machine.specs.contracts.lagging.LaggingDisk as lagging
use Rattle.window.specs.contracts.window.WindowMedium as medium
use Rattle.window.specs.contracts.window.WindowMediumMedium.TheImpl as impl

-- the disk that a handle holds, where its device may be behind
abbrev pub disk_row : RattleType
disk_row = lagging.the_row medium.the_row impl.ghosts

-- what is seen of it
abbrev pub Disk : Type 0
Disk = disk_row.Denot

-- a disk of which nothing is pending, as it starts
abbrev pub Prompt : Type 0
Prompt = DiskValue Window

-- the unit of the disk, and its medium
abbrev pub unit_of : Disk → UnitValue Window
unit_of disk = disk.disk.unit

abbrev pub medium_of : Disk → Window
medium_of disk = disk.disk.unit.store.medium

-- the layout of the image, with its format and its slots
abbrev pub layout_on : Disk → Shape
layout_on disk = layout_of disk.disk.unit.store.cached

-- the unit cannot serve its medium until the next start
abbrev pub is_faulted : Disk → Bool
is_faulted disk = is_dead disk.disk.unit.store.cached

-- ---- the command that is pending

-- the home sectors that its next step reads
abbrev pub home_of : UnitValue Window → Option Pending → Option HomeSectors
home_of unit None = None
home_of unit (Some pending) = home_sectors_of (first_home_of unit)
    (read_for pending.wanted.want pending.wanted.command)

abbrev pub needed_home : Disk → Option HomeSectors
needed_home disk = home_of disk.disk.unit disk.pending

-- how many writes and flushes a step makes at most: one in the background two
abbrev pub sends_of : Option Pending → ℕ
sends_of None = 2
sends_of (Some pending) = sends_for pending.wanted.want

abbrev pub most_sends : Disk → ℕ
most_sends disk = sends_of disk.pending
