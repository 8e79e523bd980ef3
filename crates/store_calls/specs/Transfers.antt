-- What reads, writes and syncs do to a machine, and the work in the background.
use Rattle.std.specs.Prelude.{◌≡◌, ◌≢◌, ◌⊎◌, ℕ, ◌/◌, ◌<◌, Bool, true, false, List, length}
use Rattle.std.specs.Prelude.{None, Result, Ok, Err}
use Rattle.window.specs.{Window.{Window, state_of}, declared.ask.DeviceRead.DeviceRead}
use Rattle.window.specs.{Sight.{AreInSight, AreMissing}, declared.asked.Asked.Asked}
use Rattle.logical_blocks.specs.{Blocks.Write, Book.{Book, with_write, write_of, promised}}
use Rattle.blocks.specs.StoreValue.{is_dead, unwritten, FitsBook}
use Rattle.blocks.specs.{Prepared.IsTakenAtOnce, Turns.IsTurn}
use Rattle.store_calls.specs.Calls.{MayMove, MayNotMove, home_of, IsRead, IsUnread, IsWritten}
use Rattle.store_calls.specs.{Calls.CostsWrite, Asking.to_read, Idling.{GoesAhead, TellsLeft}}
use Rattle.store_calls.specs.{WritingBack.{IsLeft, WritesBack}, Rooms.{Appends, IsRoomy}}
use Rattle.store_calls.specs.{Stores.Store}
use Rattle.store_calls.specs.Serving.{LeavesNoMore, LeavesSince, ServesOn, KeepsGoing, StaysSafe}
use Rattle.store_calls.specs.StoreMachine.{Machine, IsCaughtUp, Serves}
use Rattle.store_calls.specs.{declared.writing_back.Aim.Aim, declared.lack.Lack.Lack}
use Rattle.store_calls.specs.{declared.store_fault.StoreFault.StoreFault}
use Rattle.window.specs.declared.asked.Asked.TheVariants as asked
use Rattle.store_calls.specs.declared.writing_back.Aim.TheVariants as aim
use Rattle.store_calls.specs.declared.lack.Lack.TheVariants as lack
use Rattle.store_calls.specs.declared.store_fault.StoreFault.TheVariants as fault

-- ---- a read

-- what is to be read, of a read that lacks these sectors: while the device reads that stays
abbrev pub wish_by : Asked → Lack → DeviceRead → Lack
wish_by asked.Nothing was missing = lack.Wanted missing
wish_by (asked.Calls count) was missing = lack.Wanted missing
wish_by (asked.Read home) was missing = was
wish_by (asked.Refused count behind) was missing = lack.Wanted missing

-- A read that lacks these sectors waits until the device has read them. Where it could not, that is
-- told, once.
abbrev pub Waits : Machine → DeviceRead → Machine → StoreFault → Type 0
Waits old missing new why =
    ((old.lack ≡ lack.Unread missing) × (why ≡ fault.ReadRefused)
    × (new ≡ record old { lack = lack.Nothing }))
    ⊎ ((old.lack ≢ lack.Unread missing) × (why ≡ fault.Busy)
    × (new ≡ record old { lack = wish_by old.asked old.lack missing }))

-- some of the sectors are neither in memory nor in sight
abbrev pub Lacks : ℕ → ℕ → Machine → Machine → StoreFault → Type 0
Lacks address count old new why = (missing : DeviceRead)
    × AreMissing old.store.medium (home_of old.store address) count missing.first missing.count
    × Waits old missing new why × StaysSafe old new

-- The sectors are in memory and in sight: the blocks are read, wherever the device is.
pub record ReadsOn (address count : ℕ) (old : Machine) (filled : List ℕ) (new : Machine)
    : Type 0 where
  pub seen : AreInSight old.store.medium (home_of old.store address) count
  pub read : IsRead address count old.store filled new.store
  pub others : new ≡ record old { store = new.store }
  pub stays : StaysSafe old new

-- but a sector of the log is not in memory: the bytes may be anything then
pub record ReadsNone (address count : ℕ) (old new : Machine) (why : StoreFault) : Type 0 where
  pub is : why ≡ fault.ReadRefused
  pub unread : IsUnread address count old.store new.store
  pub others : new ≡ record old { store = new.store }
  pub stays : StaysSafe old new

abbrev pub Reads : ℕ → Machine → List ℕ → Machine → List ℕ → Result (Unit {0}) StoreFault → Type 0
Reads address old room new filled (Ok done) = MayMove old.store.cached address (length room)
    × ReadsOn address (length room / 512) old filled new
Reads address old room new filled (Err why) =
    (MayNotMove old.store.cached address (length room) why × (new ≡ old) × (filled ≡ room))
    ⊎ (MayMove old.store.cached address (length room)
    × ((Lacks address (length room / 512) old new why × (filled ≡ room))
    ⊎ ReadsNone address (length room / 512) old new why))

-- ---- a call that the device may have calls to carry out of

-- The device has not carried out all that it was told: nothing changes, but that it is noted.
abbrev pub IsBehind : Machine → Machine → Type 0
IsBehind old new = (¬ IsCaughtUp old) × (new ≡ record old { put_off = true })

-- The device had carried out all, and this is done to the store. What a loss of power leaves of it,
-- wherever in its calls the device is, a cut at some moment of them could leave.
pub record IsDoneFree (old new : Machine) : Type 0 where
  pub free : IsCaughtUp old
  pub others : new ≡ record old { store = new.store; put_off = new.put_off }
  pub since : LeavesSince old.store.medium new
  pub goes_on : KeepsGoing old new

-- What is before a write or a sync is written first: steps are made, one at least, and the same
-- call is to come again once the device has carried out their calls, which is noted. Each step
-- leaves fewer, and no call but an accepted write adds any: so the call comes to be taken.
pub record PutsOff (aim : Aim) (old new : Machine) : Type 0 where
  pub left : IsLeft aim old.store
  pub noted : new.put_off ≡ true
  pub done : IsDoneFree old new
  pub writes : WritesBack aim old.store new.store
  pub some : 0 < writes.count
  pub serves : ServesOn old new

-- ---- a write

-- One write was accepted, whole, wherever the device is: it has no more to do, and a loss of power
-- leaves no more than before.
pub record Accepts (write : Write) (old new : Machine) : Type 0 where
  pub others : new ≡ record old { store = new.store; put_off = false }
  pub written : IsWritten write old.store new.store
  pub leaves : LeavesNoMore old new
  pub since : (first : Window) → LeavesSince first old → LeavesSince first new
  pub goes_on : KeepsGoing old new
  pub serves : (book : Book) → Serves old book → Serves new (with_write book write)

-- A write that the store does not take at once waits for a device that is behind; else steps are
-- made that write the batch before it.
abbrev pub WaitsForBatch : Machine → Machine → Type 0
WaitsForBatch old new = IsBehind old new ⊎ PutsOff aim.Batch old new

-- One write was accepted, by no call of the device. Or nothing has changed: it may not be moved. Or
-- the store does not take it at once.
abbrev pub Writes : ℕ → List ℕ → Machine → Machine → Result (Unit {0}) StoreFault → Type 0
Writes address bytes old new (Ok done) = MayMove old.store.cached address (length bytes)
    × Accepts (write_of address bytes) old new
    × CostsWrite address (length bytes / 512) old.store new.store
Writes address bytes old new (Err why) =
    (MayNotMove old.store.cached address (length bytes) why × (new ≡ old))
    ⊎ (MayMove old.store.cached address (length bytes) × (why ≡ fault.Busy)
    × (¬ IsTakenAtOnce old.store.cached address (length bytes / 512)) × WaitsForBatch old new)

-- ---- a sync

-- Every accepted write is durable, and promised: no record was left to write, and the device has
-- carried out all. So no call is made, and nothing changes but the note.
pub record Promises (old new : Machine) : Type 0 where
  pub done : IsDoneFree old new
  pub live : is_dead old.store.cached ≡ false
  pub written : unwritten old.store.cached ≡ 0
  pub same : new ≡ record old { put_off = false }
  pub free : IsCaughtUp new
  pub fits : (book : Book) → FitsBook (state_of old.store.medium) old.store.cached book
      → FitsBook (state_of new.store.medium) new.store.cached (promised book)
  pub serves : (book : Book) → Serves old book → Serves new (promised book)

-- All is promised, or nothing has changed; or a record is left to write, and steps are made that
-- write it.
abbrev pub Syncs : Machine → Machine → Result (Unit {0}) StoreFault → Type 0
Syncs old new (Ok done) = Promises old new
Syncs old new (Err why) = ((why ≡ fault.Dead) × (is_dead old.store.cached ≡ true) × (new ≡ old))
    ⊎ ((is_dead old.store.cached ≡ false)
    × (why ≡ fault.Busy) × (IsBehind old new ⊎ PutsOff aim.Records old new))

-- ---- the work in the background

-- the device has carried out all, and no read waits for it
pub record IsIdle (s : Machine) : Type 0 where
  pub caught_up : IsCaughtUp s
  pub none_wanted : to_read s.lack ≡ None

-- that a write or a sync is to come again stays noted
abbrev pub KeepsNote : Machine → Machine → Type 0
KeepsNote old new = new.put_off ≡ old.put_off

-- Steps are made where the device rests, and whether some are left is told; else nothing changes,
-- and some may be left.
abbrev pub IdlesStore : Machine → Machine → Bool → Type 0
IdlesStore old new left = ((¬ IsIdle old) × (left ≡ true) × (new ≡ old))
    ⊎ (IsIdle old × KeepsNote old new × IsDoneFree old new × TellsLeft old.store new.store left
    × ServesOn old new)

-- What a store does while its device rests. The record of a frozen batch is written. Where none is
-- frozen, steps are made ahead of the next record, unless a write or a sync is to come again.
pub record WorksAtRest (put_off : Bool) (old new : Store) : Type 0 where
  pub batch : IsLeft aim.Batch old → WritesBack aim.Batch old new
  pub ahead : ¬ IsLeft aim.Batch old → put_off ≡ false → GoesAhead old new
  pub rests : ¬ IsLeft aim.Batch old → put_off ≡ true → new ≡ old
  pub appends : Appends (IsRoomy old) old new
  pub turn : IsTurn (state_of old.medium) (state_of new.medium) old.cached new.cached

-- so it does where the device rests; else nothing changes
abbrev pub WorksStoreAhead : Machine → Machine → Type 0
WorksStoreAhead old new = ((¬ IsIdle old) × (new ≡ old))
    ⊎ (IsIdle old × KeepsNote old new × IsDoneFree old new
    × WorksAtRest old.put_off old.store new.store × ServesOn old new)
