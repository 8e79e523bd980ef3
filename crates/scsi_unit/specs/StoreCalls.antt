-- What the unit's calls of the store do to its batches, its log and its medium.
use Rattle.std.specs.Prelude.{◌≡◌, ℕ, ◌+◌, ◌*◌, ◌<◌, ◌≤◌, Bool, true, false, List, [], take}
use Rattle.std.specs.Prelude.{Result, OnOk, IfOk, IfErr, MatchResult, is_ok, if◌then◌else◌}
use Rattle.medium.specs.{Medium.State, Sent.SendsUpTo}
use Rattle.logical_blocks.specs.Book.{Book, array_of, blocks_at, promised, write_of}
use Rattle.scsi.specs.{Sense.Sense, SenseCodes.{unrecovered_read_error, write_error}}
use Rattle.scsi.specs.declared.command.Transfer.{Transfer}
use Rattle.blocks.specs.{Calls.{reads_of, TurnsBatches}, Headroom.KeepsHeadroom}
use Rattle.blocks.specs.{Looks.{LooksAtLog, LooksAtBlocks}, Passing.MayEmpty}
use Rattle.blocks.specs.{OneBatch.SendsOneBatch, Sent.batch_sends, StoreValue.{Cached, StoreValue}}
use Rattle.blocks.specs.StoreValue.{transfer_limit, is_dead, active_of, batch_steps}
use Rattle.blocks.specs.{StoreValue.{FitsBook, FitsBeside, TakesRange}, Prepared.IsTakenAtOnce}
use Rattle.blocks.specs.{Turns.{IsTurn, IsWriteTurn}, Work.{IsWork, LeavesBy}}
use Rattle.blocks.specs.declared.work.Work.{Work}
use Rattle.scsi_unit.specs.{Serving.{IsEmptied, IsFinished}, Calls.calls_of_sync}
use Rattle.scsi_unit.specs.Costs.{CostsFinishing, CostsAlone}

-- the store comes after what it was by this, the policy stays, and headroom is kept
pub record ComesAfter {M : Type 0} (Comes : StoreValue M → StoreValue M → Type 0)
    (old new : StoreValue M) : Type 0 where
  pub comes : Comes old new
  pub policy : new.goes_ahead ≡ old.goes_ahead
  pub headroom : KeepsHeadroom old new

-- the store is live behind a good answer, and dead behind a write error
abbrev pub TellsDeath : Result (Unit {0}) Sense → Cached → Type 0
TellsDeath result new = MatchResult result (λ _. is_dead new ≡ false)
    (λ sense. (sense ≡ write_error) × (is_dead new ≡ true))

-- All accepted writes are durable, where that is wanted and the answer is good. Where it is not
-- wanted, nothing is done and the answer is good.
pub record MakesDurable {M : Type 0} (Comes : StoreValue M → StoreValue M → Type 0)
    (wanted : Bool) (before after : State) (old new : StoreValue M)
    (result : Result (Unit {0}) Sense) : Type 0 where
  pub turn : IsTurn before after old.cached new.cached
  pub ok : (book : Book) → FitsBook before old.cached book
      → OnOk result (FitsBook after new.cached (if wanted then promised book else book))
  pub answer : TellsDeath result new.cached
  pub active : IsEmptied wanted (active_of old.cached) (active_of new.cached)
  pub log : OnOk result (IsFinished old.goes_ahead wanted old.cached new.cached)
  pub cost : OnOk result (CostsFinishing old.goes_ahead wanted before after old.cached)
  pub calls : after.calls ≤ before.calls + (if wanted then calls_of_sync old.cached else 0)
  pub sent : SendsUpTo (2 * batch_sends old.cached) before after
  -- those of one batch where the frozen one is empty
  pub one_batch : old.cached.frozen.numbers ≡ []
      → SendsOneBatch old.goes_ahead before after old.cached.log
  pub looks : LooksAtLog before after old.cached
  pub unwanted : wanted ≡ false → (new ≡ old) × (is_ok result ≡ true)
  pub follows : ComesAfter Comes old new

-- The blocks of a transfer are at the front of a buffer, all of them, where the answer is good. The
-- batches and the log stay.
pub record ReadsBlocks {M : Type 0} (Comes : StoreValue M → StoreValue M → Type 0)
    (transfer : Transfer) (before after : State) (old new : StoreValue M) (out : List ℕ)
    (result : Result ℕ Sense) : Type 0 where
  pub ok : (book : Book) → FitsBook before old.cached book
      → OnOk result (take (512 * transfer.count) out
      ≡ blocks_at (array_of book) transfer.address transfer.count)
  pub sent_all : IfOk result (λ sent. sent ≡ 512 * transfer.count)
  pub err : IfErr result (λ sense. (sense ≡ unrecovered_read_error)
      × (before.failures < after.failures))
  pub stays : new.cached ≡ old.cached
  pub calls : after.calls ≤ before.calls + reads_of old.cached transfer.address transfer.count
  pub sent : SendsUpTo 0 before after
  pub looks : LooksAtBlocks before after old.cached transfer.address transfer.count
  pub turn : IsTurn before after old.cached new.cached
  pub follows : ComesAfter Comes old new

-- The blocks at the front of what was taken are accepted, where the answer is good.
pub record WritesBlocks {M : Type 0} (Comes : StoreValue M → StoreValue M → Type 0)
    (transfer : Transfer) (taken : List ℕ) (before after : State) (old new : StoreValue M)
    (result : Result (Unit {0}) Sense) : Type 0 where
  pub turn : IsWriteTurn (write_of transfer.address (take (512 * transfer.count) taken))
      (is_ok result) before after old.cached new.cached
  pub answer : TellsDeath result new.cached
  pub active : OnOk result (TakesRange (transfer_limit old.cached) (active_of old.cached)
      transfer.address transfer.count (active_of new.cached))
  pub batches : OnOk result (TurnsBatches old.goes_ahead old.cached new.cached transfer.address
      transfer.count)
  pub calls : after.calls ≤ before.calls + calls_of_sync old.cached
  pub sent : SendsUpTo (batch_sends old.cached) before after
  pub one_batch : SendsOneBatch old.goes_ahead before after old.cached.log
  pub looks : LooksAtLog before after old.cached
  pub paid : OnOk result (after.calls + calls_of_sync new.cached
      ≤ before.calls + calls_of_sync old.cached + 2 * batch_steps old.cached)
  -- one that is taken at once makes no call, and is good
  pub quiet : IsTakenAtOnce old.cached transfer.address transfer.count
      → (new.medium ≡ old.medium) × (after.calls ≡ before.calls) × (after.made ≡ before.made)
      × (is_ok result ≡ true)
  -- one that does not makes the frozen batch durable
  pub alone : ¬ FitsBeside (transfer_limit old.cached) (active_of old.cached) transfer.address
      transfer.count
      → OnOk result (CostsAlone old.goes_ahead before after old.cached)
  pub follows : ComesAfter Comes old new

-- One step in the background, by what it works towards: by the order of the store's work, of at
-- most two calls, and with as many steps left behind it as such a step leaves.
pub record StepsBehind {M : Type 0} (Comes : StoreValue M → StoreValue M → Type 0)
    (work : Work) (before after : State) (old new : StoreValue M) : Type 0 where
  pub turn : IsTurn before after old.cached new.cached
  pub order : IsWork work old.goes_ahead before after old.cached new.cached
  pub calls : after.calls ≤ before.calls + 2
  pub sent : SendsUpTo 2 before after
  pub looks : LooksAtLog before after old.cached
  pub left : LeavesBy work old.cached new.cached
  pub active : MayEmpty (active_of old.cached) (active_of new.cached)
  pub follows : ComesAfter Comes old new

-- a READ sends all of its blocks where it is good, and the store comes after what it was by this
pub record SendsRead {S : Type 0} (Comes : S → S → Type 0) (transfer : Transfer) (old new : S)
    (result : Result ℕ Sense) : Type 0 where
  pub sent : IfOk result (λ sent. sent ≡ 512 * transfer.count)
  pub follows : Comes old new
