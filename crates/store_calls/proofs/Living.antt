-- A life is served on through all calls.
use Rattle.std.proofs.Common.{◌≡◌, inl, inr, [], ◌∷◌, List, ℕ, true}
use Rattle.std.specs.Prelude.{Result, Ok, Err}
use Rattle.logical_blocks.specs.Book.{Book}
use Rattle.store_calls.specs.StoreLives.{Call, next, done, read, write, sync, idle, work_ahead, IsMade, book_after, LivesThrough}
use Rattle.store_calls.specs.{StoreMachine.{Machine, Serves}, Serving.ServesOn, Transfers.{Reads, Writes, Syncs}}
use Rattle.store_calls.specs.{declared.store_fault.StoreFault.StoreFault}

same : (old new : Machine) → new ≡ old → ServesOn old new
same old new is = rw is (λ book serves. serves)

noted : (old new : Machine) → new ≡ record old { put_off = true } → ServesOn old new
noted old new is = rw is (λ book serves. record { fits = serves.fits; keeps = serves.keeps })

read_on : (address : ℕ) (old : Machine) (room : List ℕ) (new : Machine) (filled : List ℕ) (result : Result (Unit {0}) StoreFault)
    → Reads address old room new filled result → ServesOn old new
read_on address old room new filled (Ok tells) reads = reads.1.stays.serves
read_on address old room new filled (Err why) (inl not) = same old new not.1
read_on address old room new filled (Err why) (inr may) = elim may.1 [
  | inl lacks ↦ lacks.0.3.serves
  | inr none ↦ none.stays.serves
]

write_on : (address : ℕ) (bytes : List ℕ) (result : Result (Unit {0}) StoreFault) (old new : Machine)
    → Writes address bytes old new result → (book : Book) → Serves old book → Serves new (book_after (write address bytes result) book)
write_on address bytes (Ok tells) old new writes = writes.1.serves
write_on address bytes (Err why) old new (inl not) = same old new not.1
write_on address bytes (Err why) old new (inr (may, busy, wants, inl behind)) = noted old new behind.1
write_on address bytes (Err why) old new (inr (may, busy, wants, inr off)) = off.serves

sync_on : (result : Result (Unit {0}) StoreFault) (old new : Machine) → Syncs old new result
    → (book : Book) → Serves old book → Serves new (book_after (sync result) book)
sync_on (Ok tells) old new syncs = syncs.serves
sync_on (Err why) old new (inl dead) = same old new dead.2
sync_on (Err why) old new (inr (live, busy, inl behind)) = noted old new behind.1
sync_on (Err why) old new (inr (live, busy, inr off)) = off.serves

idle_on : (old new : Machine) → IsMade idle old new → ServesOn old new
idle_on old new made = elim made.1 [
  | inl busy ↦ same old new busy.2
  | inr made ↦ made.4
]

one : (call : Call) (old new : Machine) → IsMade call old new → (book : Book) → Serves old book → Serves new (book_after call book)
one (next room) old new made = made.2.stays.serves
one (done ok bytes) old new made = (made.1.1.stays made.0).serves
one (read address room) old new made = read_on address old room new made.0 made.1 made.2
one (write address bytes result) old new made = write_on address bytes result old new made
one (sync result) old new made = sync_on result old new made
one idle old new made = idle_on old new made
one work_ahead old new (inl busy) = same old new busy.1
one work_ahead old new (inr (rests, note, free, works, serves)) = serves

pub serves_throughout : LivesThrough
serves_throughout [] old new is = same old new is
serves_throughout (call ∷ calls) old new made = λ book serves.
    serves_throughout calls made.0 new made.2 (book_after call book) (one call old made.0 made.1 book serves)
