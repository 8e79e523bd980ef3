-- How a disk starts on an open file.
use Rattle.std.specs.Prelude.{◌≡◌, ◌⊎◌, ℕ, ◌+◌, List, Option, Some, None, if◌then◌else◌, nat_le}
use Rattle.medium.specs.Writes.{sector_of}
use Rattle.journal.specs.declared.super_sector.Super.{Super}
use Rattle.recovery.specs.Causes.{IsDeviceFault}
use Rattle.window.specs.{Window.{Window, CoversDevice, fresh}, declared.call.DeviceCall.DeviceCall}
use Rattle.device_file.specs.{Asked.Told, First.{IsUnopened, SpellsSuper}, Reads.AreRead}
use Rattle.device_file.specs.declared.{fault.FileFault.FileFault, opening.OpenFault.OpenFault}
use Rattle.device_file.specs.declared.opening.FirstSectors.{FirstSectors}
use Rattle.usbdisk.specs.declared.live.file.FileWindow.{FileWindow}
use Rattle.usbdisk.specs.live.FileWindows.{state_of, GoesOn, Carries}
use Rattle.usbdisk.specs.{live.FileWindows.IsOver, live.Missing.{DiskOn, medium_of, window_of}}
use Rattle.usbdisk.specs.live.Ready.{CoversParts, room_of, IsReady, RefusesNone}
use Rattle.usbdisk.specs.{console.Status.refusal_of_open, declared.console.refusal.Refusal.Refusal}
use Rattle.bot_machine.specs.{Device.{Device, Ahead}, Disk.IsRearmed, Opening.IsOpened}
use Rattle.bot_machine.specs.{Opening.{IsNotOpened, StartLeaves}, StartFaults.StartFault}
use Rattle.usbdisk.specs.runner.Script.{device}
use Rattle.usbdisk.specs.declared.console.refusal.Refusal.TheVariants as refused

-- The room over a file of `size` sectors, by its super: one call, where no disk can start.
abbrev pub room_for : ℕ → Option Super → ℕ
room_for size (Some sizes) =
    if nat_le (sizes.home + sizes.blocks) size then room_of sizes.format sizes.slots else 1
room_for size None = 1

-- the disk of a script, which sends the records of its log home ahead of the next one
abbrev pub ahead_device : ℕ → Device
ahead_device most = record (device most) { retiring = Ahead }

-- What reads of a file gave, how many sectors it has, and which bytes are thought to stand behind
-- the first ones.
module _ {D : Type 0} (holds : D → ℕ → List ℕ → Type 0) (size : D → ℕ) (device : List ℕ) where
  -- a window over the first sectors of a file, as they were read of it, with the room that a disk
  -- wants and a span of the longest transfer
  pub record IsWindowOf (file : D) (w : Window) : Type 0 where
    pub first : FirstSectors
    pub size_is : first.sectors ≡ size file
    pub spells : SpellsSuper first.sizes (sector_of first.bytes.items 0)
    pub read : AreRead (holds file) 0 first.bytes.items
    pub is : w ≡ fresh first.sectors first.bytes.items device 240
        (room_for first.sectors first.sizes)

  -- it, and the file behind it
  pub record IsMediumOn (file : D) (m : FileWindow D) : Type 0 where
    pub window : Window
    pub of : IsWindowOf file window
    pub over : IsOver window file m

-- no window was had over a file that refuses these reads and has `size` sectors: it has none, it
-- refused a read of first ones, or there was no memory
abbrev pub HasNoWindow : (ℕ → ℕ → Type 0) → ℕ → Refusal → Type 0
HasNoWindow refuses size refusal =
    ((why : OpenFault) × IsUnopened refuses size why × (refusal ≡ refusal_of_open why))
    ⊎ (refusal ≡ refused.NoMemory)

-- the file of a disk that is so refused a call, and comes back
pub record IsRefusedOf {D : Type 0} (So : DiskOn D → Type 0) (back : D) (refusal : Refusal)
    : Type 0 where
  pub disk : DiskOn D
  pub so : So disk
  pub fault : FileFault
  pub fault_is : (medium_of disk).fault ≡ Some fault
  pub refused_is : refusal ≡ refused.File fault
  pub given : back ≡ (medium_of disk).file

-- Of a disk that started: what waits was asked of the file, and nothing else changed.
module _ {D : Type 0} (told : D → Told) (at_once : D → List DeviceCall → D → Type 0)
    (started : DiskOn D) where
  pub record IsCarried (new : DiskOn D) : Type 0 where
    pub carried : Carries told at_once (medium_of started) (medium_of new)
    pub others : IsRearmed started new

-- What a file was asked. Packets have at most `most` bytes.
module _ {D : Type 0} (told : D → Told) (at_once : D → List DeviceCall → D → Type 0) (most : ℕ)
    (medium : FileWindow D) where
  -- A disk started on the medium, and the file was asked for nothing. Then it was asked for exactly
  -- what waits, in order: it carried that out, or refused a call, behind which it was asked for
  -- nothing.
  pub record Starts (new : DiskOn D) : Type 0 where
    pub started : DiskOn D
    pub opens : IsOpened (state_of medium) (state_of (medium_of started)) (ahead_device most)
        started
    pub leaves : StartLeaves (state_of medium) (state_of (medium_of started))
    pub follows : GoesOn medium (medium_of started)
    -- wherever among these calls the file is, a cut of it leaves what a cut at some moment could,
    pub covers : CoversDevice medium.window (window_of started)
    -- whichever of the writes behind its last synchronising it has carried out
    pub parts : CoversParts medium.window (window_of started)
    -- no start misses: none of its calls was refused
    pub misses : RefusesNone medium.window (window_of started)
    pub carried : Carries told at_once (medium_of started) (medium_of new)
    pub others : IsRearmed started new

  -- No disk started, since the image has a fault or there was no memory: no call was refused. The
  -- file comes back, which was asked for nothing.
  pub record IsNotStarted (back : D) (refusal : Refusal) : Type 0 where
    pub after : FileWindow D
    pub fault : StartFault
    pub cause : IsNotOpened (state_of medium) (state_of after) fault
    pub by_image : ¬ IsDeviceFault fault
    pub misses : RefusesNone medium.window after.window
    pub leaves : StartLeaves (state_of medium) (state_of after)
    pub follows : GoesOn medium after
    pub refused_is : refusal ≡ refused.Image fault
    pub unasked : back ≡ medium.file

  -- or a disk started, and the file refused a call that it sent
  abbrev pub IsRefusedStart : D → Refusal → Type 0
  IsRefusedStart back refusal = IsNotStarted back refusal ⊎ IsRefusedOf Starts back refusal

  -- a disk started, and the file carried out all that it sent: it is ready for events
  pub record IsStarted (new : DiskOn D) : Type 0 where
    pub starts : Starts new
    pub well : (medium_of new).fault ≡ None
    pub ready : IsReady new

-- What reads of a file gave, how many sectors it has, which bytes are thought to stand behind the
-- first ones, and what it was asked.
module _ {D : Type 0} (told : D → Told) (at_once : D → List DeviceCall → D → Type 0)
    (holds : D → ℕ → List ℕ → Type 0) (size : D → ℕ) (device : List ℕ) (most : ℕ) (file : D) where
  -- a disk started on the file
  pub record IsStartedOn (new : DiskOn D) : Type 0 where
    pub medium : FileWindow D
    pub on : IsMediumOn holds size device file medium
    pub started : IsStarted told at_once most medium new

  -- none did, since it was refused
  pub record IsRefusedOn (back : D) (refusal : Refusal) : Type 0 where
    pub medium : FileWindow D
    pub on : IsMediumOn holds size device file medium
    pub refused : IsRefusedStart told at_once most medium back refusal

  -- or since no medium was had of a file that refuses these reads; it was asked for nothing
  abbrev pub IsNotStartedOn : (D → ℕ → ℕ → Type 0) → D → Refusal → Type 0
  IsNotStartedOn refuses back refusal =
      (HasNoWindow (refuses file) (size file) refusal × (back ≡ file)) ⊎ IsRefusedOn back refusal
