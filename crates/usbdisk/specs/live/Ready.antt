-- Nothing that a disk asks of its window is refused: no write and no flush for want of room, and no
-- read of a sector that is not in sight.
use Rattle.std.specs.Prelude.{⊤, ◌≡◌, ◌⊎◌, ℕ, ◌≤◌, [], max}
use Rattle.journal.specs.{Standing.HasShape, Places.{Shape, first_home}}
use Rattle.journal.specs.{declared.log_format.LogFormat.LogFormat}
use Rattle.medium.specs.Medium.{Image}
use Rattle.recovery.specs.Calls.{most_start_sends, HoldsLog}
use Rattle.scsi_unit.specs.{Calls.most_sends_of, Starting.layout_of}
use Rattle.window.specs.Parts as mirror
use Rattle.window.specs.Window.{Window, mirror_of, state_of, kept_out, ComesAfter, CoversDevice}
use Rattle.spec.specs.declared.event.Event.{Event}
use Rattle.spec.specs.declared.event.Event.TheVariants as event
use Rattle.usbdisk.specs.live.Missing.{DiskOn, window_of, WantsNone}

-- as many writes and flushes as an event makes at most, and as a start does that finds
-- `slots` slots
abbrev pub room_of : LogFormat → ℕ → ℕ
room_of format slots = max (most_sends_of format) (most_start_sends format slots)

-- No call of a medium was refused from one moment to another.
abbrev pub RefusesNone : Window → Window → Type 0
RefusesNone old new = (state_of new).failures ≡ (state_of old).failures

-- no write and no flush was
abbrev pub KeepsAll : Window → Window → Type 0
KeepsAll old new = kept_out new.seen.told.refused ≡ kept_out old.seen.told.refused

-- a device that was handed what was sent until the first moment, and any first part of what was
-- sent since, and has carried out any part of the writes behind its last flush
abbrev pub CoversParts : Window → Window → Type 0
CoversParts old new = mirror.CoversParts (mirror_of old) (mirror_of new)

-- whatever calls of a window come, such a device is the first of these
abbrev pub Foresees : Window → Type 0
Foresees w = (new : Window) → ComesAfter w new → CoversDevice w new

-- ---- a start

-- The room is that of the image, where its super tells the format and the slots and the medium has
-- all its sectors. Where there is no such image, no disk starts, by one call at most.
abbrev pub HasRoomToStart : ℕ → Image → ℕ → Type 0
HasRoomToStart size content room =
    ((shape : Shape) × HasShape size shape content × (room_of shape.format shape.slots ≤ room))
    ⊎ (((shape : Shape) → ¬ HasShape size shape content) × (1 ≤ room))

-- A window over which a start misses nothing: nothing waits, all sectors before the first home
-- sector lie in memory, and there is the room. What the longest transfer reads can be in sight.
pub record IsReadyToStart (w : Window) : Type 0 where
  pub empty : w.outbox ≡ []
  pub log : HoldsLog w.near (state_of w).size (state_of w).content
  pub room : HasRoomToStart (state_of w).size (state_of w).content w.room
  pub span : 240 ≤ w.span
  pub foresees : Foresees w

-- ---- an event

module _ {D : Type 0} where
  -- the layout of the image
  abbrev pub layout_on : DiskOn D → Shape
  layout_on disk = layout_of disk.unit.store.cached

  -- so a disk before an event
  pub record IsReady (disk : DiskOn D) : Type 0 where
    pub empty : (window_of disk).outbox ≡ []
    pub log : first_home (layout_on disk) ≤ (window_of disk).near
    pub room : room_of (layout_on disk).format (layout_on disk).slots ≤ (window_of disk).room
    pub span : 240 ≤ (window_of disk).span

  -- whatever blocks an event has read, their home sectors are in sight: a packet to Bulk-Out alone
  -- has any read
  abbrev pub SeesHome : DiskOn D → Event → Type 0
  SeesHome disk (event.Out packet) = WantsNone disk packet.items
  SeesHome disk other = ⊤
