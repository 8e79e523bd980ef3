-- What the device of a store is asked for, and what it tells.
use Rattle.std.specs.Prelude.{◌≡◌, ◌≢◌, ◌⊎◌, ℕ, ◌*◌, ◌<◌, Bool, true, false, List, [], length}
use Rattle.std.specs.Prelude.{Option, Some, None, Result, Ok, Err}
use Rattle.window.specs.{OutboxMedium.first_of}
use Rattle.window.specs.{Window.{state_of, AreOnDevice}, declared.ask.DeviceRead.DeviceRead}
use Rattle.window.specs.{declared.ask.DeviceAsk.DeviceAsk, declared.done_fault.DoneFault.DoneFault}
use Rattle.window.specs.{declared.asked.Asked.Asked}
use Rattle.blocks.specs.{Passing.IsUntouched}
use Rattle.store_calls.specs.{Calls.Sees, Outbox.{without, IsLongestRun, IsNoRoom}}
use Rattle.store_calls.specs.{Refused.IsRefused, Serving.{StaysSafe, Rests}, StoreMachine.Machine}
use Rattle.store_calls.specs.{declared.lack.Lack.Lack}
use Rattle.window.specs.declared.call.DeviceCall.TheVariants as call
use Rattle.window.specs.declared.ask.DeviceAsk.TheVariants as ask
use Rattle.window.specs.declared.done_fault.DoneFault.TheVariants as fault
use Rattle.window.specs.declared.asked.Asked.TheVariants as asked
use Rattle.store_calls.specs.declared.lack.Lack.TheVariants as lack

-- ---- what it is asked for

-- the buffer has room for some whole sectors
abbrev pub HasRoomFor : List ℕ → Type 0
HasRoomFor room = ¬ IsNoRoom (length room)

-- so many calls leave the outbox, and the device is asked for them; nothing else changes
pub record HandsOut (old : Machine) (count : ℕ) (new : Machine) : Type 0 where
  pub free : old.asked ≡ asked.Nothing
  pub gone : new.store.medium ≡ without count old.store.medium
  pub untouched : IsUntouched state_of old.store new.store
  pub others : new ≡ record old { store = new.store; asked = asked.Calls count }

-- the sectors that are to be read, since a read lacks them
abbrev pub to_read : Lack → Option DeviceRead
to_read lack.Nothing = None
to_read (lack.Wanted home) = Some home
to_read (lack.Unread home) = None

-- the device is at a call that it was asked for, or there is none for it
abbrev pub IsAtRest : Machine → Type 0
IsAtRest s = (s.asked ≢ asked.Nothing)
    ⊎ ((s.store.medium.outbox ≡ []) × (to_read s.lack ≡ None))

-- The sectors that are to be read, before the calls that wait, even where one of these writes them.
-- Else the next of the outbox: a flush, or the longest run of writes for which the buffer has room.
abbrev pub AsksFor : Machine → List ℕ → DeviceAsk → Machine → List ℕ → Type 0
AsksFor old room ask.Nothing new filled = IsAtRest old × (new ≡ old) × (filled ≡ room)
AsksFor old room (ask.Write first count) new filled =
    HandsOut old count new × (0 < count)
    × IsLongestRun old.store.medium new.store.medium first count room filled
    × (to_read old.lack ≡ None)
AsksFor old room ask.Flush new filled =
    HandsOut old 1 new × (first_of old.store.medium.outbox ≡ Some call.Flush)
    × (filled ≡ room) × (to_read old.lack ≡ None)
AsksFor old room (ask.Read home) new filled =
    (old.asked ≡ asked.Nothing) × (to_read old.lack ≡ Some home)
    × (new ≡ record old { asked = asked.Read home }) × (filled ≡ room)

-- so a device that is at no call is asked, for a buffer with room for some whole sectors
abbrev pub AsksIdle : Machine → List ℕ → DeviceAsk → Machine → List ℕ → Type 0
AsksIdle old room what new filled =
    old.asked ≡ asked.Nothing → HasRoomFor room → AsksFor old room what new filled

-- the next call is told, and each life is served on
pub record TellsNext (old : Machine) (room : List ℕ) (what : DeviceAsk) (new : Machine)
    (filled : List ℕ) : Type 0 where
  pub asks : AsksFor old room what new filled
  pub stays : StaysSafe old new

-- ---- what it tells

-- the calls that it was asked for are carried out
abbrev pub carried_out : Machine → Machine
carried_out s = record s { asked = asked.Nothing }

-- It refused these calls. What waits is handed to no device: the store is dead.
pub record EndsRefused (old : Machine) (count : ℕ) (new : Machine) : Type 0 where
  pub refused : IsRefused old.store new.store
  pub others : new ≡ record old {
    store = new.store;
    asked = asked.Refused count (length old.store.medium.outbox);
  }

-- Where the store did not take the sectors, or the device could not read them, they count as
-- unread: the read that lacks them is told so.
abbrev pub lack_behind : DeviceRead → Bool → Lack
lack_behind home true = lack.Nothing
lack_behind home false = lack.Unread home

-- a read of these sectors is over, and the store took them or not
abbrev pub read_ended : Machine → DeviceRead → Bool → Machine
read_ended s home taken = record s { asked = asked.Nothing; lack = lack_behind home taken }

-- the device read these sectors
pub record IsShownBy (old : Machine) (home : DeviceRead) (bytes : List ℕ) (new : Machine)
    : Type 0 where
  pub taken : Bool
  pub sees : Sees home.first bytes taken old.store new.store
  pub others : new ≡ record (read_ended old home taken) { store = new.store }

-- nothing changes
abbrev pub IsNotDone : DoneFault → Machine → Result (Unit {0}) DoneFault → Machine → Type 0
IsNotDone why old result new = (result ≡ Err why) × (new ≡ old)

-- a read has ended, good or not
abbrev pub EndsRead : DeviceRead → Bool → Machine → List ℕ → Result (Unit {0}) DoneFault → Machine
    → Type 0
EndsRead home true old bytes result new =
    ((length bytes ≢ 512 * home.count) × IsNotDone fault.BadLength old result new)
    ⊎ ((length bytes ≡ 512 * home.count) × (result ≡ Ok tt) × IsShownBy old home bytes new)
EndsRead home false old bytes result new = (result ≡ Ok tt)
    × (new ≡ read_ended old home false)

-- calls have ended, good or not
abbrev pub EndsCalls : ℕ → Bool → Machine → Result (Unit {0}) DoneFault → Machine → Type 0
EndsCalls count true old result new = (result ≡ Ok tt) × (new ≡ carried_out old)
EndsCalls count false old result new = (result ≡ Ok tt) × EndsRefused old count new

-- what the device was asked for last has ended, good or not; it read these bytes
abbrev pub EndsAs : Asked → Bool → Machine → List ℕ → Result (Unit {0}) DoneFault → Machine
    → Type 0
EndsAs asked.Nothing ok old bytes result new = IsNotDone fault.NothingAsked old result new
EndsAs (asked.Calls count) ok old bytes result new = EndsCalls count ok old result new
EndsAs (asked.Read home) ok old bytes result new = EndsRead home ok old bytes result new
EndsAs (asked.Refused count behind) ok old bytes result new =
    IsNotDone fault.NothingAsked old result new

-- the bytes are those that the device holds, where it read some: it has carried out all that left
-- the outbox and nothing of what waits there, or all
abbrev pub IsHonest : Machine → Bool → List ℕ → Type 0
IsHonest s ok bytes = ok ≡ true → (home : DeviceRead) → s.asked ≡ asked.Read home
    → AreOnDevice home.first bytes s.store.medium

-- The call has ended, and each life is served on. Where the device has carried out all, each
-- promise stands.
pub record Ends (old : Machine) (ok : Bool) (bytes : List ℕ) (result : Result (Unit {0}) DoneFault)
    (new : Machine) : Type 0 where
  pub is : EndsAs old.asked ok old bytes result new
  pub stays : IsHonest old ok bytes → StaysSafe old new
  pub rests : Rests new
