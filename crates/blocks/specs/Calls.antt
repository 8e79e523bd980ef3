-- How many calls of the medium a read of a store makes, and what a write does to the batches.
use Rattle.std.specs.Prelude.{◌≡◌, ℕ, ◌+◌, ◌*◌, ◌/◌, zero, suc, Bool, true, false, List, [], ◌∷◌}
use Rattle.std.specs.Prelude.{◌≤◌, if◌then◌else◌, Result, OnOk, is_ok, IsOk}
use Rattle.medium.specs.{Medium.State, Sent.SendsUpTo, declared.fault.MediumFault.TheVariants.Flush}
use Rattle.logical_blocks.specs.Blocks.{Write}
use Rattle.theorems.specs.Retiring.{finished, finish_calls, finish_flushes, wants}
use Rattle.theorems.specs.{Steady.IsSteady, Headroom.HasHeadroom}
use Rattle.cache.specs.Blocks.{is_listed}
use Rattle.blocks.specs.{Book.IsTransfer, declared.fault.StoreFault.StoreFault}
use Rattle.blocks.specs.{OneBatch.SendsOneBatch, Sent.batch_sends, Turns.IsWriteTurn}
use Rattle.blocks.specs.{Headroom.FlushesOnce, Passing.{PassesOn, TellsLife}}
use Rattle.blocks.specs.{Prepared.IsTakenAtOnce, StoreValue.{Cached, StoreValue, FitsBeside}}
use Rattle.blocks.specs.StoreValue.{TakesRange, transfer_limit, active_of, blocks_of, batch_steps}
use Rattle.blocks.specs.StoreValue.{steps_left, is_dead}

-- one of these records has the block
abbrev pub is_logged : List (List ℕ) → ℕ → Bool
is_logged [] b = false
is_logged (numbers ∷ records) b = if is_listed numbers b then true else is_logged records b

-- how many calls read a block that no batch has: none where the log keeps it, and else one
abbrev pub log_reads : Bool → List (List ℕ) → ℕ → ℕ
log_reads false records b = 1
log_reads true records b = if is_logged records b then 0 else 1

-- how many it takes to read a block: none where a batch has it
abbrev pub block_reads : Cached → ℕ → ℕ
block_reads s b =
    if is_listed s.active.numbers b then 0 else
    (if is_listed s.frozen.numbers b then 0 else log_reads s.log.keeps s.log.waiting b)

-- how many it takes to read count blocks from this address on
abbrev pub reads_of : Cached → ℕ → ℕ → ℕ
reads_of s address zero = 0
reads_of s address (suc count) = block_reads s address + reads_of s (address + 1) count

-- A read makes at most count calls, and exactly count where it is good; at most `most`, a bound
-- that does not look into the log. No write or flush is among them.
pub record CostsReads {A E : Type 0} (result : Result A E) (most count : ℕ) (before after : State)
    : Type 0 where
  pub calls : after.calls ≤ before.calls + most
  pub reads : after.calls ≤ before.calls + count
  pub exactly : OnOk result (after.calls ≡ before.calls + count)
  pub none_sent : SendsUpTo 0 before after

-- A good write whose range fits beside the active batch changes that batch alone. After any other
-- the frozen batch is the active one, and the one before it is durable.
pub record TurnsBatches (ahead : Bool) (old new : Cached) (address count : ℕ) : Type 0 where
  pub beside : FitsBeside (transfer_limit old) old.active.numbers address count
      → (new.frozen ≡ old.frozen) × (new.log ≡ old.log)
  pub alone : ¬ FitsBeside (transfer_limit old) old.active.numbers address count
      → (new.frozen ≡ old.active) × (new.log ≡ finished ahead old.frozen old.log)

-- What a good write of these blocks costs: one batch more at most. Where the range does not fit, it
-- makes the calls and flushes that make the frozen batch durable, and no other.
pub record CostsWrite {A E : Type 0} (ahead : Bool) (result : Result A E) (address count : ℕ)
    (before after : State) (old new : Cached) : Type 0 where
  pub paid : OnOk result (after.calls + 2 * steps_left new
      ≤ before.calls + 2 * steps_left old + 2 * batch_steps old)
  pub alone : ¬ FitsBeside (transfer_limit old) (active_of old) address count
      → OnOk result (after.calls ≡ before.calls + finish_calls ahead old.frozen.numbers old.log)
  pub flushes : ¬ FitsBeside (transfer_limit old) (active_of old) address count
      → OnOk result (after.made Flush
      ≡ before.made Flush + finish_flushes old.frozen.numbers old.log)
  -- where the store goes ahead and has headroom, one for that batch, and none where it is empty
  pub once : ahead ≡ true → HasHeadroom old.log
      → ¬ FitsBeside (transfer_limit old) (active_of old) address count
      → OnOk result (after.made Flush ≡ before.made Flush + wants old.frozen.numbers)
  -- one for each record that became durable, whether or not the range fits
  pub as_many : FlushesOnce ahead before after old new
  -- no more writes and flushes than one batch takes, whatever becomes of it
  pub one_batch : SendsOneBatch ahead before after old.log

-- where a write of these blocks is good: the batch that takes it, and those before that
pub record WritesRange {A E : Type 0} (ahead : Bool) (result : Result A E) (address count : ℕ)
    (old new : Cached) : Type 0 where
  pub active : OnOk result
      (TakesRange (transfer_limit old) (active_of old) address count (active_of new))
  pub batches : OnOk result (TurnsBatches ahead old new address count)
  -- where the store goes ahead, a ring that is steady stays so
  pub stays : ahead ≡ true → IsSteady old.log → OnOk result (IsSteady new.log)
  -- and one with headroom keeps it
  pub headroom : ahead ≡ true → HasHeadroom old.log → OnOk result (HasHeadroom new.log)

-- how it answers: as any, and where it is taken at once, by no call, and Ok if the store is live
pub record AnswersWrite {M A : Type 0} (result : Result A StoreFault) (address count : ℕ)
    (old new : StoreValue M) : Type 0 where
  pub answer : TellsLife result new.cached
  pub dead : is_dead old.cached ≡ true → new ≡ old
  pub quiet : IsTakenAtOnce old.cached address count
      → (new.medium ≡ old.medium) × (is_dead old.cached ≡ false → IsOk result)

-- A write that does not fit: the batch before is made durable, and the range has one of its own.
pub record WritesAlone {M A : Type 0} (state : M → State) (Follows : M → M → Type 0)
    (result : Result A StoreFault) (write : Write) (address count : ℕ) (old new : StoreValue M)
    : Type 0 where
  pub passes : PassesOn state Follows (IsWriteTurn write (is_ok result)) (2 * steps_left old.cached)
      (batch_sends old.cached) old new
  pub answers : AnswersWrite result address count old new
  pub batches : WritesRange old.goes_ahead result address count old.cached new.cached
  pub cost : CostsWrite old.goes_ahead result address count (state old.medium) (state new.medium)
      old.cached new.cached

-- The active batch takes the range, and is one record more at most. The others stay.
pub record AppendsRange (address count : ℕ) (old new : Cached) : Type 0 where
  pub log : new.log ≡ old.log
  pub frozen : new.frozen ≡ old.frozen
  pub one_more : steps_left new ≤ steps_left old + batch_steps old
  pub active : TakesRange (transfer_limit old) (active_of old) address count (active_of new)

-- the frozen batch of a live store is empty, and no record is under way
pub record CanBegin (s : Cached) : Type 0 where
  pub live : is_dead s ≡ false
  pub idle : s.log.steps_left ≡ 0
  pub empty : s.frozen.numbers ≡ []

-- a write of so many bytes fits beside the active batch
pub record TakesBeside (s : Cached) (address size : ℕ) : Type 0 where
  pub range : IsTransfer (transfer_limit s) (blocks_of s) address size
  pub fits : FitsBeside (transfer_limit s) (active_of s) address (size / 512)

-- it does not beside that of a live store
pub record HasToTakeAlone (s : Cached) (address size : ℕ) : Type 0 where
  pub live : is_dead s ≡ false
  pub range : IsTransfer (transfer_limit s) (blocks_of s) address size
  pub alone : ¬ FitsBeside (transfer_limit s) (active_of s) address (size / 512)
