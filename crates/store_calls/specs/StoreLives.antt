-- Calls of a machine, one after the other, and what they keep of a life.
use Rattle.std.specs.Prelude.{◌≡◌, ℕ, Bool, List, [], ◌∷◌, Result, Ok, Err}
use Rattle.logical_blocks.specs.Book.{Book, with_write, write_of, promised}
use Rattle.window.specs.{declared.ask.DeviceAsk.DeviceAsk, declared.done_fault.DoneFault.DoneFault}
use Rattle.store_calls.specs.{Asking.{TellsNext, Ends, IsHonest}, StoreMachine.{Machine, Serves}}
use Rattle.store_calls.specs.Transfers.{Reads, Writes, Syncs, IdlesStore, WorksStoreAhead}
use Rattle.store_calls.specs.{declared.store_fault.StoreFault.StoreFault}

-- a call, with what it is given, and how a write and a sync are answered
pub data Call : Type 0 where
  next : List ℕ → Call
  done : Bool → List ℕ → Call
  read : ℕ → List ℕ → Call
  write : ℕ → List ℕ → Result (Unit {0}) StoreFault → Call
  sync : Result (Unit {0}) StoreFault → Call
  idle : Call
  work_ahead : Call

-- the call is made, as its contract says; what the device read is told as it is
abbrev pub IsMade : Call → Machine → Machine → Type 0
IsMade (next room) old new = (what : DeviceAsk) × (filled : List ℕ)
    × TellsNext old room what new filled
IsMade (done ok bytes) old new = IsHonest old ok bytes
    × ((result : Result (Unit {0}) DoneFault) × Ends old ok bytes result new)
IsMade (read address room) old new = (filled : List ℕ)
    × (result : Result (Unit {0}) StoreFault) × Reads address old room new filled result
IsMade (write address bytes result) old new = Writes address bytes old new result
IsMade (sync result) old new = Syncs old new result
IsMade idle old new = (left : Bool) × IdlesStore old new left
IsMade work_ahead old new = WorksStoreAhead old new

abbrev pub AreMade : List Call → Machine → Machine → Type 0
AreMade [] old new = new ≡ old
AreMade (call ∷ calls) old new = (mid : Machine) × IsMade call old mid × AreMade calls mid new

-- an accepted write comes last, and a good sync promises all
abbrev pub book_after : Call → Book → Book
book_after (next room) book = book
book_after (done ok bytes) book = book
book_after (read address room) book = book
book_after (write address bytes (Ok tells)) book = with_write book (write_of address bytes)
book_after (write address bytes (Err why)) book = book
book_after (sync (Ok tells)) book = promised book
book_after (sync (Err why)) book = book
book_after idle book = book
book_after work_ahead book = book

abbrev pub books_after : List Call → Book → Book
books_after [] book = book
books_after (call ∷ calls) book = books_after calls (book_after call book)

-- whatever calls of a machine come, in any order
abbrev pub LivesThrough : Type 0
LivesThrough = (calls : List Call) (old new : Machine) → AreMade calls old new
    → (book : Book) → Serves old book → Serves new (books_after calls book)
