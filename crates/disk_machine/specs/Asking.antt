-- What the device is asked for, and what it tells.
use Rattle.std.specs.Prelude.{◌≡◌, ◌≢◌, ◌⊎◌, ℕ, ◌*◌, ◌/◌, ◌<◌, Bool, true, false, List, [], ◌∷◌}
use Rattle.std.specs.Prelude.{length, Option, Some, None, Result, Ok, Err, if◌then◌else◌}
use Rattle.std.specs.Prelude.{◌++◌}
use Rattle.medium.specs.Inlet.{AreHeld}
use Rattle.window.specs.{OutboxMedium.first_of}
use Rattle.window.specs.declared.ask.{DeviceRead.DeviceRead, DeviceAsk.DeviceAsk}
use Rattle.window.specs.declared.{asked.Asked.Asked, done_fault.DoneFault.DoneFault}
use Rattle.window.specs.Window.{device_so_far}
use Rattle.store_calls.specs.Outbox.{without, IsLongestRun}
use Rattle.disk_machine.specs.{Going.GoesOn, Machine.Machine, Plays.{medium_of, Sees}}
use Rattle.disk_machine.specs.Moves.{Turn, played, ticks, KeepsGoing, ServesTurns}
use Rattle.disk_machine.specs.Refused.{IsRefused, KeepsRest}
use Rattle.disk_machine.specs.{Wanted.{Lacks, LacksNone}, declared.lack.Lack.Lack}
use Rattle.window.specs.declared.call.DeviceCall.TheVariants as call
use Rattle.window.specs.declared.ask.DeviceAsk.TheVariants as ask
use Rattle.window.specs.declared.asked.Asked.TheVariants as asked
use Rattle.window.specs.declared.done_fault.DoneFault.TheVariants as fault
use Rattle.spec.specs.declared.event.Event.TheVariants as event
use Rattle.spec.specs.declared.event.Answer.TheVariants as answer
use Rattle.disk_machine.specs.declared.lack.Lack.TheVariants as lack

-- ---- what it is asked for

-- so many calls leave the outbox, and the device is asked for them; nothing else changes
pub record HandsOut (old : Machine) (count : ℕ) (new : Machine) : Type 0 where
  pub free : old.asked ≡ asked.Nothing
  pub gone : medium_of new.disk ≡ without count (medium_of old.disk)
  pub rest : KeepsRest old.disk new.disk
  pub others : new ≡ record old { disk = new.disk; asked = asked.Calls count }

-- the sectors that are to be read ahead
abbrev pub to_read : Lack → Option DeviceRead
to_read (lack.Ahead home) = Some home
to_read _ = None

-- the device is at a call that it was asked for, or there is none for it
abbrev pub IsAtRest : Machine → Type 0
IsAtRest s = (s.asked ≢ asked.Nothing)
    ⊎ (LacksNone s × ((medium_of s.disk).outbox ≡ []) × (to_read s.lack ≡ None))

-- a READ that is pending lacks them, and no sectors are read ahead meanwhile
abbrev pub ReadsLacked : Machine → DeviceRead → Machine → Type 0
ReadsLacked old home new = Lacks old home
    × (new ≡ record old { asked = asked.Read home; lack = lack.Nothing })

-- no call waits, and they are read ahead
abbrev pub ReadsAhead : Machine → DeviceRead → Machine → Type 0
ReadsAhead old home new = LacksNone old × ((medium_of old.disk).outbox ≡ [])
    × (to_read old.lack ≡ Some home) × (new ≡ record old { asked = asked.Read home })

-- The sectors that a READ lacks, before the calls that wait, even where one of these writes them.
-- Else the next of the outbox: a flush, or the longest run of writes for which the buffer has room.
-- Where none waits, the sectors that are to be read ahead.
abbrev pub AsksFor : Machine → List ℕ → DeviceAsk → Machine → List ℕ → Type 0
AsksFor old room ask.Nothing new filled = IsAtRest old × (new ≡ old) × (filled ≡ room)
AsksFor old room (ask.Write first count) new filled =
    HandsOut old count new × (0 < count)
    × IsLongestRun (medium_of old.disk) (medium_of new.disk) first count room filled
    × LacksNone old
AsksFor old room ask.Flush new filled =
    HandsOut old 1 new × (first_of (medium_of old.disk).outbox ≡ Some call.Flush)
    × (filled ≡ room) × LacksNone old
AsksFor old room (ask.Read home) new filled =
    (old.asked ≡ asked.Nothing) × (filled ≡ room)
    × (ReadsLacked old home new ⊎ ReadsAhead old home new)

-- ---- what it tells

-- the calls that it was asked for are carried out
abbrev pub counted : Machine → Machine
counted s = record s { asked = asked.Nothing }

-- It refused these calls. What waits is handed to no device, and the disk is faulted.
pub record IsGivenUp (old : Machine) (count : ℕ) (new : Machine) : Type 0 where
  pub refused : IsRefused old.disk new.disk
  pub others : new ≡ record old {
    disk = new.disk;
    asked = asked.Refused count (length (medium_of old.disk).outbox);
  }

-- they are read ahead
abbrev pub is_ahead : Lack → Bool
is_ahead (lack.Ahead home) = true
is_ahead _ = false

-- Sectors that a READ lacks, and that the disk did not take, count as unread: the READ goes on
-- without them. Those that were read ahead do not: a READ that lacks them has them read.
abbrev pub lack_behind : Lack → DeviceRead → Bool → Lack
lack_behind was home taken =
    if is_ahead was then lack.Ended else if taken then lack.Nothing else lack.Unread home

-- a read of these sectors is over, and the disk took them or not
abbrev pub read_over : Machine → DeviceRead → Bool → Machine
read_over s home taken =
    record s { asked = asked.Nothing; lack = lack_behind s.lack home taken }

-- the device read these sectors
pub record IsShownTo (old : Machine) (home : DeviceRead) (bytes : List ℕ) (new : Machine)
    : Type 0 where
  pub taken : Bool
  pub sees : Sees old.disk home.first bytes new.disk taken
  pub others : new ≡ record (read_over old home taken) { disk = new.disk }

-- nothing changes
abbrev pub IsNotDone : DoneFault → Machine → Result (Unit {0}) DoneFault → Machine → Type 0
IsNotDone why old result new = (result ≡ Err why) × (new ≡ old)

-- a read has ended, good or not
abbrev pub HasRead : DeviceRead → Bool → Machine → List ℕ → Result (Unit {0}) DoneFault → Machine
    → Type 0
HasRead home true old bytes result new =
    ((length bytes ≢ 512 * home.count) × IsNotDone fault.BadLength old result new)
    ⊎ ((length bytes ≡ 512 * home.count) × (result ≡ Ok tt) × IsShownTo old home bytes new)
HasRead home false old bytes result new = (result ≡ Ok tt)
    × (new ≡ read_over old home false)

-- calls have ended, good or not
abbrev pub HasEnded : ℕ → Bool → Machine → Result (Unit {0}) DoneFault → Machine → Type 0
HasEnded count true old result new = (result ≡ Ok tt) × (new ≡ counted old)
HasEnded count false old result new = (result ≡ Ok tt) × IsGivenUp old count new

-- what the device was asked for last has ended, good or not; it read these bytes
abbrev pub IsDone : Asked → Bool → Machine → List ℕ → Result (Unit {0}) DoneFault → Machine
    → Type 0
IsDone (asked.Calls count) ok old bytes result new = HasEnded count ok old result new
IsDone (asked.Read home) ok old bytes result new = HasRead home ok old bytes result new
IsDone _ ok old bytes result new = IsNotDone fault.NothingAsked old result new

-- then a command that is pending goes on
pub record Hears (old : Machine) (ok : Bool) (bytes : List ℕ) (result : Result (Unit {0}) DoneFault)
    (new : Machine) : Type 0 where
  pub mid : Machine
  pub done : IsDone old.asked ok old bytes result mid
  pub goes : GoesOn mid new

-- the bytes are those that the device holds, where it read some: it has carried out all that left
-- the outbox, and nothing of what waits there
abbrev pub IsHonest : Machine → Bool → List ℕ → Type 0
IsHonest s ok bytes = ok ≡ true → (home : DeviceRead) → s.asked ≡ asked.Read home
    → AreHeld (device_so_far (medium_of s.disk)).content home.first (length bytes / 512) bytes

-- a refusal is a step of the disk with a refused call
abbrev pub turns_told : Asked → Bool → List Turn
turns_told (asked.Calls count) false = played event.Tick answer.Ticked ∷ []
turns_told _ _ = []

-- The life is served on, and each of these steps is by the rules.
pub record HearsSafely (old : Machine) (ok : Bool) (bytes : List ℕ)
    (result : Result (Unit {0}) DoneFault) (new : Machine) : Type 0 where
  pub hears : Hears old ok bytes result new
  pub serves : IsHonest old ok bytes
      → ServesTurns (turns_told old.asked ok ++ ticks hears.goes.count) old new
  pub goes_on : IsHonest old ok bytes → KeepsGoing old new
