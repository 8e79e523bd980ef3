-- A medium that has some sectors in memory, and the device behind it.
use Rattle.std.specs.Prelude.{◌+◌, ◌*◌, ◌/◌, ◌%◌, ◌≡◌, ◌<◌, ◌≤◌, ◌⊎◌, ◌↔◌, ℕ, Bool, true, false}
use Rattle.std.specs.Prelude.{List, [], ◌∷◌, ◌++◌}
use Rattle.std.specs.Prelude.{length, Option, ◌||◌, nat_lt, IsTrue}
use Rattle.std.specs.List.{list_all}
use Rattle.medium.specs.Medium.{State, Image}
use Rattle.medium.specs.Sent.{sent}
use Rattle.medium.specs.Tally.{Tally}
use Rattle.medium.specs.Writes.{sector_of}
use Rattle.medium.specs.Inlet.{AreHeld}
use Rattle.window.specs.OutboxMedium as mirror
use Rattle.window.specs.OutboxMedium.{OutboxMedium}
use Rattle.window.specs.Device.{Device, durable, after}
use Rattle.window.specs.Story.{given}
use Rattle.window.specs.declared.call.DeviceCall.{DeviceCall}
use Rattle.window.specs.Seen as seen
use Rattle.window.specs.Seen.{Seen}

pub record Window : Type 0 where
  -- what it was asked, and what waits, as of a medium that has all bytes in memory
  pub seen : Seen
  pub outbox : List DeviceCall
  pub room : ℕ
  -- how many first sectors lie in memory
  pub near : ℕ
  -- and of the others: from which one on, how many, and how many at most
  pub from : ℕ
  pub held : ℕ
  pub span : ℕ

abbrev pub mirror_of : Window → OutboxMedium
mirror_of w = record { story = w.seen.told; outbox = w.outbox; room = w.room }

abbrev pub lies_in : ℕ → ℕ → ℕ → Bool
lies_in first count s = seen.lies_in first count s

-- content, sets and moments are those of the whole device, and it keeps account of what reads name
abbrev pub state_of : Window → State
state_of w = record (mirror.state_of (mirror_of w)) { looked = w.seen.looked }

-- a read finds this sector in memory
abbrev pub is_in_sight : Window → ℕ → Bool
is_in_sight w s = nat_lt s w.near || lies_in w.from w.held s

-- all of these sectors are among those that were shown
abbrev pub AreShown : Window → ℕ → ℕ → Type 0
AreShown w first count = (w.from ≤ first) × (first + count ≤ w.from + w.held)

abbrev pub fits : Window → Bool
fits w = nat_lt (length w.outbox) w.room

-- a medium of a device of `size` sectors, before the first call
abbrev pub fresh : ℕ → List ℕ → List ℕ → ℕ → ℕ → Window
fresh size near holds span room = record {
  seen = seen.begun size near holds;
  outbox = [];
  room = room;
  near = length near / 512;
  from = 0;
  held = 0;
  span = span;
}

abbrev pub reads : Window → ℕ → Window
reads w s = record w { seen = seen.read w.seen s }

abbrev pub reads_from : Window → ℕ → ℕ → Window
reads_from w first count = record w { seen = seen.read_from w.seen first count }

abbrev pub misses : Window → ℕ → Window
misses w s = record w { seen = seen.missed w.seen s }

abbrev pub gives : Window → DeviceCall → Window
gives w call = record w { seen = seen.gave w.seen call; outbox = w.outbox ++ call ∷ [] }

abbrev pub refuses : Window → DeviceCall → Window
refuses w call = record w { seen = seen.refused w.seen call }

-- the first call is taken out of what waits, if there is one
abbrev pub take_first : List DeviceCall → Window → Window
take_first [] w = w
take_first (call ∷ calls) w = record w { seen = seen.took w.seen call; outbox = calls }

abbrev pub without_first : Window → Window
without_first w = take_first w.outbox w

-- sectors are shown as the device holds them: nothing changes but where the window stands
abbrev pub moved : Window → ℕ → ℕ → Window
moved w first count = record w { from = first; held = count }

-- how many writes and flushes
abbrev pub kept_out : Tally → ℕ
kept_out t = t.writes + t.flushes

-- The second comes after the first, by calls of a medium alone.
pub record ComesAfter (old new : Window) : Type 0 where
  pub since : List (Option DeviceCall)
  pub asked : new.seen.told.asked ≡ old.seen.told.asked ++ since
  pub outbox : new.outbox ≡ old.outbox ++ given since
  pub opening_stays : new.seen.told.opening ≡ old.seen.told.opening
  pub taken_stays : new.seen.told.taken ≡ old.seen.told.taken
  pub room_stays : new.room ≡ old.room
  pub near_stays : new.near ≡ old.near
  pub from_stays : new.from ≡ old.from
  pub held_stays : new.held ≡ old.held
  pub span_stays : new.span ≡ old.span
  -- the sectors that reads named since
  pub looks : List ℕ
  pub looked : new.seen.looked ≡ old.seen.looked ++ looks
  -- no read is refused where each names a sector that is in sight
  pub in_sight : list_all (is_in_sight old) looks ≡ true
      → new.seen.told.refused.reads ≡ old.seen.told.refused.reads
  -- what was given to the device are writes and flushes
  pub sent : kept_out old.seen.told.made + length (given since) ≤ kept_out new.seen.told.made
  -- and none of these is refused as long as what waited and they have room together
  pub refuses : kept_out old.seen.told.refused < kept_out new.seen.told.refused
      → new.room + kept_out old.seen.told.made
      < length old.outbox + kept_out new.seen.told.made
  pub failures_stay : kept_out old.seen.told.refused ≤ kept_out new.seen.told.refused
  pub misses_stay : old.seen.told.refused.reads ≤ new.seen.told.refused.reads

-- a device that has carried out what was sent until the first moment, and any first part of what
-- was sent since
abbrev pub CoversDevice : Window → Window → Type 0
CoversDevice old new = mirror.CoversDevice (mirror_of old) (mirror_of new)

-- Where each sector that was read since is in sight, and what waits at the first moment and all
-- writes and flushes since have room together, no call is refused.
abbrev pub IsServed : Window → Window → Type 0
IsServed old new = (looks : List ℕ) → new.seen.looked ≡ old.seen.looked ++ looks
    → list_all (is_in_sight old) looks ≡ true
    → length old.outbox + sent (state_of new) ≤ sent (state_of old) + old.room
    → (state_of new).failures ≡ (state_of old).failures

-- what holds of every such medium
pub record IsWellFormed (w : Window) : Type 0 where
  pub mirror : mirror.IsWellFormed (mirror_of w)
  pub near : 512 * w.near ≤ length w.seen.told.opening
  pub held : w.held ≤ w.span
  pub behind : w.near ≤ w.from ⊎ (w.held ≡ 0)

-- the device as it is when it has carried out what was taken out of the outbox, and nothing else
abbrev pub device_so_far : Window → Device
device_so_far m = after (durable m.seen.told.opening) m.seen.told.taken

-- the device holds these bytes from this sector on: it has carried out what was taken out of the
-- outbox and nothing else, or all
abbrev pub AreOnDevice : ℕ → List ℕ → Window → Type 0
AreOnDevice first bytes m = AreHeld (device_so_far m).content first (length bytes / 512) bytes
    ⊎ AreHeld (state_of m).content first (length bytes / 512) bytes

-- a device that holds these bytes in each sector
abbrev pub holding : List ℕ → Device
holding bytes = record { content = λ s. bytes; may_leave = λ s c. c ≡ bytes }

-- what a sector that held these bytes holds when these calls are carried out
abbrev pub laid_over : List DeviceCall → ℕ → List ℕ → List ℕ
laid_over calls s bytes = (after (holding bytes) calls).content s

-- the image is what count sectors from `first` on hold, which held these bytes, when these calls
-- are carried out
abbrev pub AreLaidOver : List DeviceCall → ℕ → ℕ → List ℕ → Image → Type 0
AreLaidOver calls first count bytes image = (i : ℕ) → i < count
    → image (first + i) ≡ laid_over calls (first + i) (sector_of bytes i)

-- these bytes may be shown from this sector on: they are whole sectors, no more than there is room
-- for, all of the device and behind the first ones
abbrev pub HasPlace : ℕ → List ℕ → Window → Type 0
HasPlace first bytes m =
    (length bytes % 512 ≡ 0) × (length bytes / 512 ≤ m.span)
    × (m.near ≤ first) × (512 * first + length bytes ≤ length m.seen.told.opening)

-- Sectors were shown, and taken or not. Where they are what the device holds, nothing but the
-- window has changed; where they are not, the medium is one of a device that held them, and has
-- carried out what waits. Whatever they are, each other sector, those of the log among them, holds
-- what it held, and what waits for the device stays.
pub record IsShown (first : ℕ) (bytes : List ℕ) (taken : Bool) (old new : Window) : Type 0 where
  pub refused : taken ≡ false → new ≡ old
  pub fits : IsTrue taken ↔ HasPlace first bytes old
  pub honest : taken ≡ true → AreOnDevice first bytes old
      → new ≡ moved old first (length bytes / 512)
  pub content : taken ≡ true
      → AreLaidOver old.outbox first (length bytes / 512) bytes (state_of new).content
  pub beside : taken ≡ true → (s : ℕ) → s < (state_of old).size
      → lies_in first (length bytes / 512) s ≡ false
      → (state_of new).content s ≡ (state_of old).content s
  pub others : new ≡ record old { seen = new.seen; from = new.from; held = new.held }
  pub there : taken ≡ true → (new.from ≡ first) × (new.held ≡ length bytes / 512)
  pub calls : (state_of new).calls ≡ (state_of old).calls
  pub size : (state_of new).size ≡ (state_of old).size
