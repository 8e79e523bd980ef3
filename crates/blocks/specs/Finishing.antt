-- What is durable after a call that writes batches out, and which records are retired for that.
use Rattle.std.specs.Prelude.{◌≡◌, ◌+◌, ◌≤◌, ◌<◌, true, [], length, Bool, Result, OnOk, All}
use Rattle.medium.specs.{Medium.State, declared.fault.MediumFault.TheVariants.Flush}
use Rattle.journal.specs.declared.log_format.LogFormat.TheVariants.{Two}
use Rattle.redo_log.specs.Value.{HasRoom, most_retire_sends}
use Rattle.theorems.specs.Retiring.{left_flushes, room_flushes, both_flushes, finished, made_ready}
use Rattle.theorems.specs.Retiring.{written_out, with_spare, to_begin, record_calls, calls_from}
use Rattle.theorems.specs.{Retiring.{both_calls, ready_calls, wants}, Headroom.HasHeadroom}
use Rattle.theorems.specs.{Room.{IsPrepared, RetiresForRoom, HasSlots}, Steady.IsSteady}
use Rattle.theorems.specs.Steady.{IsFilling, IsFuller, steady_calls}
use Rattle.blocks.specs.{Headroom.{KeepsHeadroom, FlushesOnce, records_of}, OneBatch.SendsOneBatch}
use Rattle.blocks.specs.{Passing.{MayEmpty, PassesPaid, TellsLife, Answers}, StoreValue.Cached}
use Rattle.blocks.specs.StoreValue.{StoreValue, layout_of, active_of, unwritten, steps_left}
use Rattle.blocks.specs.declared.fault.StoreFault.{StoreFault}

-- what a call of a store answers that gives nothing
abbrev pub Answer : Type 0
Answer = Result (Unit {0}) StoreFault

-- The record under way is written out, by exactly the calls and flushes of its steps, and that is
-- told. Where Ok it is durable, and the frozen batch is empty. None is retired.
pub record WritesRecord {M : Type 0} (state : M → State) (Follows : M → M → Type 0)
    (result : Answer) (old new : StoreValue M) : Type 0 where
  pub passes : PassesPaid state Follows old.cached.log.steps_left old new
  pub answer : TellsLife result new.cached
  pub done : OnOk result ((new.cached.log.steps_left ≡ 0) × (new.cached.frozen.numbers ≡ []))
  pub written : OnOk result (new.cached.log ≡ written_out old.cached.log)
  pub waits : 0 < new.cached.log.retire_steps_left
  pub head : new.cached.log.head ≡ old.cached.log.head
  pub active : new.cached.active ≡ old.cached.active
  pub exactly : OnOk result ((state new.medium).calls
      ≡ (state old.medium).calls + old.cached.log.steps_left)
  pub flushes : OnOk result ((state new.medium).made Flush
      ≡ (state old.medium).made Flush + left_flushes old.cached.log)

-- Room is made, by exactly the calls and the flushes for that, and that is told. Nothing is retired
-- but the oldest record, and that only where there was no room, or the store goes ahead.
pub record MakesReady {M : Type 0} (state : M → State) (Follows : M → M → Type 0) (ahead : Bool)
    (result : Answer) (old new : StoreValue M) : Type 0 where
  pub passes : PassesPaid state Follows (most_retire_sends (layout_of old.cached).format) old new
  pub answer : TellsLife result new.cached
  pub retires : RetiresForRoom ahead old.cached.log new.cached.log
  pub room : OnOk result (HasRoom new.cached.log)
  pub made : OnOk result (new.cached.log ≡ made_ready ahead old.cached.log)
  pub quiet : IsPrepared ahead old.cached.log → new.medium ≡ old.medium
  pub active : new.cached.active ≡ old.cached.active
  pub frozen : new.cached.frozen ≡ old.cached.frozen
  pub cost : OnOk result ((state new.medium).calls
      ≡ (state old.medium).calls + ready_calls ahead old.cached.log)
  pub flushed : OnOk result ((state new.medium).made Flush
      ≡ (state old.medium).made Flush + room_flushes old.cached.log)
  -- each record that waits has blocks
  pub blocks : ahead ≡ true → All (λ numbers. 0 < length numbers) old.cached.log.waiting

-- Where Ok the frozen batch is durable and empty. Where it was empty nothing happens.
pub record FinishesFrozen {M : Type 0} (result : Answer) (old new : StoreValue M) : Type 0 where
  pub answers : Answers result old new
  pub done : OnOk result ((new.cached.log.steps_left ≡ 0) × (new.cached.frozen.numbers ≡ []))
  pub rests : old.cached.frozen.numbers ≡ [] → new ≡ old
  pub waits : 0 < length old.cached.frozen.numbers
      → OnOk result (0 < new.cached.log.retire_steps_left)
  pub finishes : OnOk result (new.cached.log
      ≡ finished old.goes_ahead old.cached.frozen old.cached.log)
  pub retires : RetiresForRoom old.goes_ahead old.cached.log new.cached.log
  pub active : new.cached.active ≡ old.cached.active
  pub fills : old.goes_ahead ≡ true → IsFilling old.cached.log
      → 0 < length old.cached.frozen.numbers → OnOk result (IsFuller old.cached.log new.cached.log)
  pub stays : old.goes_ahead ≡ true → IsSteady old.cached.log
      → OnOk result (IsSteady new.cached.log)
  -- a record under way is that of a batch
  pub some : OnOk result (0 < old.cached.log.steps_left → 0 < length old.cached.frozen.numbers)

-- How many calls a good sync makes: those that make both batches durable, and no other. With a slot
-- for each record, and two besides where it goes ahead, they are those of the records.
pub record CostsSync (ahead : Bool) (result : Answer) (before after : State) (old new : Cached)
    : Type 0 where
  pub exactly : OnOk result (after.calls
      ≡ before.calls + both_calls ahead old.frozen.numbers old.active.numbers old.log)
  pub roomy : HasSlots (with_spare ahead
      (to_begin old.frozen.numbers old.log + wants old.active.numbers)) old.log
      → OnOk result (after.calls ≡ before.calls + record_calls old.frozen.numbers old.log
      + calls_from 0 old.log.shape.format old.active.numbers)
  -- With a ring that records alone filled, a sync brings one record home under its one flush.
  pub steady : ahead ≡ true → IsSteady old.log → old.frozen.numbers ≡ []
      → 0 < length old.active.numbers
      → OnOk result (after.calls ≡ before.calls + steady_calls old.active.numbers old.log)
  -- The flushes among its calls are those for both batches.
  pub flushes : OnOk result (after.made Flush ≡ before.made Flush
      + both_flushes ahead old.frozen.numbers old.active.numbers old.log)
  -- In format 2 a sync of one batch flushes once where a slot is free, and no more often.
  pub once : old.log.shape.format ≡ Two → HasRoom old.log → old.frozen.numbers ≡ []
      → 0 < length old.active.numbers → OnOk result (after.made Flush ≡ before.made Flush + 1)
  -- Where the store goes ahead and has headroom, each record flushes once, and nothing else does.
  pub each_once : ahead ≡ true → HasHeadroom old.log
      → OnOk result (after.made Flush ≡ before.made Flush + records_of old)
  -- These are the records that became durable.
  pub as_many : FlushesOnce ahead before after old new
  -- So it does in such a ring.
  pub steady_once : old.log.shape.format ≡ Two → IsSteady old.log → old.frozen.numbers ≡ []
      → 0 < length old.active.numbers → OnOk result (after.made Flush ≡ before.made Flush + 1)
  -- Where the frozen batch is empty one batch at most is made durable, whatever becomes of it.
  pub one_batch : old.frozen.numbers ≡ [] → SendsOneBatch ahead before after old.log

-- what both batches and the log become where each accepted write is made durable
pub record FinishesBoth {M : Type 0} (result : Answer) (old new : StoreValue M) : Type 0 where
  pub active : MayEmpty (active_of old.cached) (active_of new.cached)
  -- Where nothing is to be written no call is made. The last record that is written waits.
  pub rests : unwritten old.cached ≡ 0 → new.medium ≡ old.medium
  pub waits : 0 < unwritten old.cached → OnOk result (0 < steps_left new.cached)
  -- Where Ok: the record of each batch is written, and nothing is retired but the oldest record
  -- before one that finds no slot free, or, where the store goes ahead, what that makes of the log.
  pub finishes : OnOk result (new.cached.log ≡ finished old.goes_ahead old.cached.active
      (finished old.goes_ahead old.cached.frozen old.cached.log))
  -- Records alone fill the ring, by one for each sync of one batch; then it is steady, and stays.
  pub fills : old.goes_ahead ≡ true → IsFilling old.cached.log → old.cached.frozen.numbers ≡ []
      → 0 < length old.cached.active.numbers → OnOk result (IsFuller old.cached.log new.cached.log)
  pub stays : old.goes_ahead ≡ true → IsSteady old.cached.log
      → OnOk result (IsSteady new.cached.log)
  -- Where it goes ahead and the ring was not full at the start, it never is.
  pub headroom : KeepsHeadroom old new
  -- no record is retired but one for each batch, where the ring is full
  pub retires : new.cached.log.head ≤ old.cached.log.head + 2
