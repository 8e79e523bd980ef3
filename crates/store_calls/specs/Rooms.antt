-- Nothing that a store asks of its medium is refused: no write and no flush for want of room, and
-- no read of a sector that is not in sight.
use Rattle.std.specs.Prelude.{◌≡◌, ◌⊎◌, ℕ, ◌+◌, ◌≤◌, length, true}
use Rattle.journal.specs.{Places.{Shape, first_home, sectors_of}, Sectors.IsSuper}
use Rattle.journal.specs.{declared.log_format.LogFormat.LogFormat}
use Rattle.journal.specs.{declared.log_format.LogFormat.TheVariants.Two}
use Rattle.medium.specs.{Medium.State}
use Rattle.logical_blocks.specs.Blocks.{Array}
use Rattle.recovery.specs.Calls.{most_start_sends, IsFresh, IsReadOfFresh}
use Rattle.recovery.specs.{Recovered.HasNoneWaiting}
use Rattle.window.specs.Window.{Window, state_of, mirror_of, kept_out, ComesAfter, CoversDevice}
use Rattle.window.specs.Window.{IsServed, is_in_sight}
use Rattle.blocks.specs.{StoreValue.layout_of}
use Rattle.store_calls.specs.{Stores.Store}
use Rattle.window.specs.Parts as mirror
use Rattle.recovery.specs.Calls as recovery
-- handed on to the layers above
pub use Rattle.blocks.specs.Sent.{most_sent}

-- so many calls wait at most when a step is made
abbrev pub most_waiting : ℕ
most_waiting = 63

-- and so many writes and flushes it makes at most
abbrev pub step_sends : ℕ
step_sends = 2

-- as many calls as steps leave in an outbox: no other call of a store makes a write or a flush
abbrev pub most_left : ℕ
most_left = most_waiting + step_sends

-- so much room an outbox must have, whatever the format
abbrev pub room_of : LogFormat → ℕ
room_of format = most_left

-- that of an image
abbrev pub room_for : Shape → ℕ
room_for shape = room_of shape.format

-- From one moment to another no write and no flush was refused, given this room; no read, given
-- this sight; and given both, no call at all.
pub record RefusesNothing (Room Sight : Type 0) (old new : Window) : Type 0 where
  pub kept : Room → kept_out new.seen.told.refused ≡ kept_out old.seen.told.refused
  pub seen : Sight → new.seen.told.refused.reads ≡ old.seen.told.refused.reads
  pub none : Room → Sight → (state_of new).failures ≡ (state_of old).failures

-- a device that was handed what was sent until the first moment, and any first part of what was
-- sent since, and has carried out any part of the writes behind its last flush
abbrev pub CoversParts : Window → Window → Type 0
CoversParts old new = mirror.CoversParts (mirror_of old) (mirror_of new)

-- what a medium says of all calls of it that may come
pub record Foresees (m : Window) : Type 0 where
  pub covers : (new : Window) → ComesAfter m new → CoversDevice m new
  pub parts : (new : Window) → ComesAfter m new → CoversParts m new
  pub served : (new : Window) → ComesAfter m new → IsServed m new

-- ---- a call

-- the outbox has room for so many calls beside what waits
abbrev pub TakesCalls : ℕ → Store → Type 0
TakesCalls count s = length s.medium.outbox + count ≤ s.medium.room

-- for those of a step
abbrev pub HasRoom : Store → Type 0
HasRoom s = TakesCalls step_sends s

-- The outbox has room for all that steps leave there, each made while few calls wait. So has that
-- of each store that was started, and each call keeps it, since the room and the layout stay.
abbrev pub IsRoomy : Store → Type 0
IsRoomy s = room_for (layout_of s.cached) ≤ s.medium.room

-- the log keeps its blocks and is never read back, or all sectors before the first home sector lie
-- in memory
abbrev pub HoldsLog : Store → Type 0
HoldsLog s =
    (s.cached.log.keeps ≡ true) ⊎ (first_home (layout_of s.cached) ≤ s.medium.near)

-- All that a call gave to the device is appended to the outbox. Wherever in it the device is, and
-- whichever of the writes behind its last flush it has carried out, a cut of it leaves what a cut
-- at some moment of the call could. With this room, and the log in memory, none of its calls of the
-- medium is refused.
pub record Appends (Room : Type 0) (old new : Store) : Type 0 where
  pub follows : ComesAfter old.medium new.medium
  pub covers : CoversDevice old.medium new.medium
  pub parts : CoversParts old.medium new.medium
  pub served : IsServed old.medium new.medium
  pub refuses : RefusesNothing Room (HoldsLog old) old.medium new.medium

-- ---- a start

-- a start makes no more writes and flushes where no record waits
abbrev pub clean_sends : ℕ
clean_sends = 4

-- By the super, room for a start on all the slots of its log, or for one on a log in which no
-- record waits; or whatever the bytes, room for a start in format 2 with 64 slots.
abbrev pub HasRoomToStart : Window → Type 0
HasRoomToStart first =
    let before : State = state_of first in
    ((shape : Shape) × IsSuper shape (before.content 0) × (sectors_of shape ≤ before.size)
    × ((most_start_sends shape.format shape.slots ≤ first.room)
    ⊎ (HasNoneWaiting shape before.content × (clean_sends ≤ first.room))))
    ⊎ (most_start_sends Two 64 ≤ first.room)

-- the first sectors are all before the first home sector, as `opening` reads them
abbrev pub HoldsImageLog : Window → Type 0
HoldsImageLog first = recovery.HoldsLog first.near (state_of first).size (state_of first).content

-- No record waits in the image, and the sectors are in sight that a start reads of it then: the
-- super, the head, and those of the slot of the next record that tell that this is not there.
pub record SeesFresh (first : Window) : Type 0 where
  pub shape : Shape
  pub array : Array
  pub next : ℕ
  pub fresh : IsFresh shape array next (state_of first).content
  pub sees : (s : ℕ) → IsReadOfFresh shape next s → is_in_sight first s ≡ true

-- a start sees whatever it reads
abbrev pub SeesStart : Window → Type 0
SeesStart first = HoldsImageLog first ⊎ SeesFresh first

-- no start misses: none has a call refused, good or refused itself
abbrev pub StartRefusesNothing : Window → Window → Type 0
StartRefusesNothing first after =
    RefusesNothing (HasRoomToStart first) (SeesStart first) first after
