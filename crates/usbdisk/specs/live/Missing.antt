-- Which sectors of a file a disk is to be shown before it takes a packet.
use Rattle.std.specs.Prelude.{ℕ, List}
use Rattle.scsi_unit.specs.declared.reading.HomeSectors.{HomeSectors}
use Rattle.bot_machine.specs.{DiskValue.DiskValue, Reading.ReadsHome}
use Rattle.window.specs.{Sight.AreInSight, Sight.AreMissing, Window.Window}
use Rattle.usbdisk.specs.declared.live.file.FileWindow.{FileWindow}

-- what is seen of a disk over a window and its file
abbrev pub DiskOn : Type 0 → Type 0
DiskOn D = DiskValue (FileWindow D)

-- its medium
abbrev pub medium_of : {D : Type 0} → DiskOn D → FileWindow D
medium_of disk = disk.unit.store.medium

-- what lies in memory of the file
abbrev pub window_of : {D : Type 0} → DiskOn D → Window
window_of disk = disk.unit.store.medium.window

-- the packet has the blocks at some home sectors read, and these of them are missing
abbrev pub Wants : {D : Type 0} → DiskOn D → List ℕ → ℕ → ℕ → Type 0
Wants disk packet first count = (home : HomeSectors) × ReadsHome disk packet home
    × AreMissing (window_of disk) home.first home.count first count

-- whatever blocks the packet has read, their home sectors are in sight
abbrev pub WantsNone : {D : Type 0} → DiskOn D → List ℕ → Type 0
WantsNone disk packet = (home : HomeSectors) → ReadsHome disk packet home
    → AreInSight (window_of disk) home.first home.count
