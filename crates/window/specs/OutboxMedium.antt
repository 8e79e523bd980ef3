-- A medium with an outbox, and the device that carries out what comes out of it.
use Rattle.std.specs.Prelude.{◌≡◌, ℕ, ◌/◌, ◌%◌, ◌<◌, ◌≤◌, true, List, [], ◌∷◌, ◌++◌}
use Rattle.std.specs.Prelude.{length, take, Option, Some, None, if◌then◌else◌}
use Rattle.medium.specs.Medium.{State, Image, CutLeaves}
use Rattle.medium.specs.Tally.{of_kind, of_all}
use Rattle.window.specs.Device.{Device, durable, after}
use Rattle.window.specs.Story as story
use Rattle.window.specs.Story.{Told, given, are_whole}
use Rattle.window.specs.declared.call.DeviceCall.{DeviceCall}

pub record OutboxMedium : Type 0 where
  -- what it was asked since the beginning
  pub story : Told
  -- what the device is still to carry out, in order
  pub outbox : List DeviceCall
  -- how much of that there is room for
  pub room : ℕ

-- the device as it is when it has carried out what the first of the medium's calls gave to it
abbrev pub device_at : Told → ℕ → Device
device_at t moment = after (durable t.opening) (given (take moment t.asked))

-- the device as it is when it has carried out all
abbrev pub device_of : Told → Device
device_of t = after (durable t.opening) (given t.asked)

-- a cut of the device at this moment or a later one could have left this image
pub record LeftSince (t : Told) (moment : ℕ) (image : Image) : Type 0 where
  pub at : ℕ
  pub later : moment ≤ at
  pub past : at ≤ length t.asked
  pub cut : CutLeaves (device_at t at).may_leave image

-- A model with a write of another length is given no sectors, so that the law on lengths holds of
-- every model; no real medium is such.
abbrev pub size_of : Told → ℕ
size_of t = if are_whole (given t.asked) then length t.opening / 512 else 0

-- Its content and sets are those of the device that has carried out all, and its moments those of
-- the device on its way there. It keeps no account of what reads name.
abbrev pub state_of : OutboxMedium → State
state_of m = record {
  size = size_of m.story;
  content = (device_of m.story).content;
  may_leave = (device_of m.story).may_leave;
  left_since = LeftSince m.story;
  calls = length m.story.asked;
  made = of_kind m.story.made;
  failures = of_all m.story.refused;
  refused = of_kind m.story.refused;
  looked = [];
}

-- a read: nothing is appended
abbrev pub reads : OutboxMedium → OutboxMedium
reads m = record m { story = story.read m.story }

-- a call that the device is to carry out: it alone is appended
abbrev pub gives : OutboxMedium → DeviceCall → OutboxMedium
gives m call = record m { story = story.gave m.story call; outbox = m.outbox ++ call ∷ [] }

-- a call that was refused: nothing is appended
abbrev pub refuses : OutboxMedium → DeviceCall → OutboxMedium
refuses m call = record m { story = story.refused m.story call }

-- every call that was given to the device since the beginning, taken out or not
abbrev pub sent : OutboxMedium → List DeviceCall
sent m = m.story.taken ++ m.outbox

abbrev pub first_of : List DeviceCall → Option DeviceCall
first_of [] = None
first_of (call ∷ calls) = Some call

-- The second comes after the first, by calls of a medium alone: all that they gave to the device is
-- appended to the outbox, in order.
pub record ComesAfter (old new : OutboxMedium) : Type 0 where
  pub since : List (Option DeviceCall)
  pub asked : new.story.asked ≡ old.story.asked ++ since
  pub outbox : new.outbox ≡ old.outbox ++ given since
  pub taken_stays : new.story.taken ≡ old.story.taken

-- What a loss of power may leave of a device that has carried out this many of the calls sent.
abbrev pub DeviceLeaves : OutboxMedium → ℕ → Image → Type 0
DeviceLeaves m count image =
    CutLeaves (after (durable m.story.opening) (take count (sent m))).may_leave image

-- A device that has carried out what was sent until the first moment, and any first part of what
-- was sent from then on: what a cut leaves of it, a cut of the medium since then could have left.
abbrev pub CoversDevice : OutboxMedium → OutboxMedium → Type 0
CoversDevice old new =
    (count : ℕ) (image : Image) → length (sent old) ≤ count → DeviceLeaves new count image
    → (state_of new).left_since (state_of old).calls image

-- what holds of every such medium
pub record IsWellFormed (m : OutboxMedium) : Type 0 where
  pub some : 0 < length m.story.opening
  pub whole : length m.story.opening % 512 ≡ 0
  pub whole_writes : are_whole (given m.story.asked) ≡ true
  pub all_sent : given m.story.asked ≡ sent m
  pub held : length m.outbox ≤ m.room
