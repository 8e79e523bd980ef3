-- The order of the background work: what one step of it does, and one that goes ahead.
use Rattle.std.specs.Prelude.{◌≡◌, ◌⊎◌, ◌+◌, ◌-◌, ◌^◌, ◌≤◌, ◌<◌, true, false, [], length, Result}
use Rattle.std.specs.Prelude.{Ok, OnOk, Bool, ℕ}
use Rattle.medium.specs.{Medium.State, Moments.IsUnchanged, Sent.SendsUpTo}
use Rattle.medium.specs.declared.fault.MediumFault.TheVariants.{Flush}
use Rattle.redo_log.specs.Value.{begun, died, IsStepped, IsRetireStepped, next_calls, next_sends}
use Rattle.redo_log.specs.Value.{next_step_flushes, next_turn_flushes, LogValue, IsSentHome}
use Rattle.redo_log.specs.Value.{pass_calls, HasRoom, most_steps}
use Rattle.redo_log.specs.declared.progress.Progress.{TheVariants.{More, Durable}, Progress}
use Rattle.theorems.specs.{Room.IsRoomy, Ahead.{counted, past}, Retiring.firsts_in}
use Rattle.cache.specs.Entries.{Entries}
use Rattle.blocks.specs.{Turns.IsTurn, declared.fault.StoreFault.StoreFault, StoreValue.Cached}
use Rattle.blocks.specs.StoreValue.{StoreValue, layout_of, is_dead, unwritten, steps_left}
use Rattle.blocks.specs.Passing.{PassesOn, KeepsMedium, TellsLife, PassesPaid}

-- The medium refused one call, and the log is dead. The batches are as they were.
pub record HasDied (before after : State) (old new : Cached) : Type 0 where
  pub is : new ≡ record old { log = died old.log }
  pub failures : after.failures ≡ before.failures + 1

-- the frozen batch stays while its record needs more steps, and is empty once that is durable
abbrev pub LeavesFrozen : Progress → Entries → Entries → Type 0
LeavesFrozen More old new = new ≡ old
LeavesFrozen Durable old new = new ≡ record old { numbers = []; bytes = [] }

-- the record under way came one step further, and the batch that takes writes stays
pub record HasGoneOn (progress : Progress) (old new : Cached) : Type 0 where
  pub log : IsStepped progress old.log new.log
  pub active : new.active ≡ old.active
  pub frozen : LeavesFrozen progress old.frozen new.frozen

-- one step of the record under way, which is one call of the medium, and a flush where its step is
pub record IsRecordStep (before after : State) (old new : Cached) : Type 0 where
  pub one_call : after.calls ≡ before.calls + 1
  pub flushed : after.made Flush ≡ before.made Flush + next_step_flushes old.log
  pub live : is_dead new ≡ false
      → (after.failures ≡ before.failures) × (progress : Progress) × HasGoneOn progress old new
  pub dies : is_dead new ≡ true → HasDied before after old new

-- The frozen batch comes first, and stays. Where it is empty the active one takes its place.
pub record FreezesNext (old new : Cached) : Type 0 where
  pub frozen_first : 0 < length old.frozen.numbers → (new.active ≡ old.active)
      × (new.frozen ≡ old.frozen)
  pub else_active : old.frozen.numbers ≡ [] → (new.active ≡ old.frozen) × (new.frozen ≡ old.active)

-- The next batch's record is begun, by no call of the medium. With no stamp left the log is dead.
pub record IsBeginning (before after : State) (old new : Cached) : Type 0 where
  pub unchanged : IsUnchanged before after
  pub next : FreezesNext old new
  pub live : is_dead new ≡ false → (old.log.next < 2 ^ 63 - 1)
      × (new.log ≡ begun new.frozen.numbers (firsts_in new.frozen) new.frozen.bytes old.log)
  pub dies : is_dead new ≡ true → (old.log.next ≡ 2 ^ 63 - 1) × (new.log ≡ died old.log)

-- The oldest record is retired by exactly one step, with that step's calls, writes and flushes, and
-- never more than two calls. Both batches stay. Where no record waits nothing happens.
pub record IsRetiring (before after : State) (old new : Cached) : Type 0 where
  pub none_waits : old.log.waiting ≡ [] → (new ≡ old) × IsUnchanged before after
  pub two_calls : after.calls ≤ before.calls + 2
  pub counted : is_dead new ≡ false → after.calls ≡ before.calls + next_calls old.log
  pub sent : SendsUpTo (next_sends old.log) before after
  pub few_flushes : after.made Flush ≤ before.made Flush + next_turn_flushes old.log
  pub flushed : is_dead new ≡ false
      → after.made Flush ≡ before.made Flush + next_turn_flushes old.log
  pub active : new.active ≡ old.active
  pub frozen : new.frozen ≡ old.frozen
  pub live : 0 < length old.log.waiting → is_dead new ≡ false
      → (after.failures ≡ before.failures) × IsRetireStepped old.log new.log
  pub dies : is_dead new ≡ true → HasDied before after old new

-- A record may be begun: none is under way, the log has room, and a batch holds blocks. Where the
-- store goes ahead three slots are free: two are left for records that a call has to begin.
abbrev pub MayBegin : Bool → Cached → Type 0
MayBegin ahead s = IsRoomy ahead s.log × (0 < unwritten s)

-- a live store has room for a record, and so many blocks for it
pub record MayBeginNow (s : Cached) (blocks : ℕ) : Type 0 where
  pub live : is_dead s ≡ false
  pub room : HasRoom s.log
  pub some : 0 < blocks

-- a live store has a record under way
pub record IsUnderWay (s : Cached) : Type 0 where
  pub live : is_dead s ≡ false
  pub under_way : 0 < s.log.steps_left

-- One background step. A dead store makes none. With a record under way only that record goes on;
-- else the next batch is begun where it may be, and the oldest record is retired where none may.
pub record IsBackgroundStep (ahead : Bool) (before after : State) (old new : Cached)
    : Type 0 where
  pub dead : is_dead old ≡ true → (new ≡ old) × IsUnchanged before after
  pub goes_on : is_dead old ≡ false → 0 < old.log.steps_left → IsRecordStep before after old new
  pub begins : is_dead old ≡ false → MayBegin ahead old → IsBeginning before after old new
  pub retires : is_dead old ≡ false → old.log.steps_left ≡ 0 → ¬ MayBegin ahead old
      → IsRetiring before after old new

-- a step of a live store leaves fewer of them, where there was one
abbrev pub LeavesFewer : Cached → Cached → Type 0
LeavesFewer old new =
    is_dead new ≡ false → (steps_left new < steps_left old) ⊎ (steps_left old ≡ 0)

-- the active batch becomes the frozen one
pub record Freezes {M : Type 0} (state : M → State) (Follows : M → M → Type 0)
    (old new : StoreValue M) : Type 0 where
  pub keeps : KeepsMedium state Follows IsTurn old new
  pub is : new ≡ record old {
    cached = record old.cached { active = old.cached.frozen; frozen = old.cached.active };
  }

-- The record of the frozen batch is begun, which leaves fewer steps, and some of its own, or, where
-- no stamp is left for it, the log is dead. No record is retired, and both batches stay.
pub record Begins {M : Type 0} (state : M → State) (Follows : M → M → Type 0)
    (result : Result (Unit {0}) StoreFault) (old new : StoreValue M) : Type 0 where
  pub keeps : KeepsMedium state Follows IsTurn old new
  pub live : is_dead new.cached ≡ false → (old.cached.log.next < 2 ^ 63 - 1)
      × (new.cached.log ≡ begun old.cached.frozen.numbers (firsts_in old.cached.frozen)
      old.cached.frozen.bytes old.cached.log)
  pub dies : is_dead new.cached ≡ true
      → (old.cached.log.next ≡ 2 ^ 63 - 1) × (new.cached.log ≡ died old.cached.log)
  pub falls : is_dead new.cached ≡ false → steps_left new.cached < steps_left old.cached
  pub head : new.cached.log.head ≡ old.cached.log.head
  pub active : new.cached.active ≡ old.cached.active
  pub frozen : new.cached.frozen ≡ old.cached.frozen
  pub answer : TellsLife result new.cached
  pub begun : OnOk result ((0 < new.cached.log.steps_left)
      × (new.cached.log.steps_left ≤ most_steps (layout_of old.cached).format))

-- One step of the record under way is made, and told: some are left then, or none is, and the batch
-- is empty. That record has to be retired later. None is retired, and the active batch stays.
pub record StepsOn (result : Result Progress StoreFault) (before after : State) (old new : Cached)
    : Type 0 where
  pub record_step : IsRecordStep before after old new
  pub answer : TellsLife result new
  pub more : result ≡ Ok More → 0 < new.log.steps_left
  pub durable : result ≡ Ok Durable → (new.log.steps_left ≡ 0) × (new.frozen.numbers ≡ [])
  pub falls : is_dead new ≡ false → steps_left new < steps_left old
  pub waits : 0 < new.log.retire_steps_left
  pub head : new.log.head ≡ old.log.head
  pub active : new.active ≡ old.active

-- One step of retiring is made, and told: none where no record waits. No record is under way.
pub record RetiresOn {M : Type 0} (state : M → State) (Follows : M → M → Type 0)
    (result : Result (Unit {0}) StoreFault) (old new : StoreValue M) : Type 0 where
  pub passes : PassesOn state Follows IsTurn 2 2 old new
  pub retiring : IsRetiring (state old.medium) (state new.medium) old.cached new.cached
  pub answer : TellsLife result new.cached
  pub none : old.cached.log.waiting ≡ [] → new ≡ old
  pub falls : 0 < length old.cached.log.waiting → is_dead new.cached ≡ false
      → steps_left new.cached < steps_left old.cached
  pub idle : new.cached.log.steps_left ≡ 0

-- ---- what the calls of a store do that make it go ahead

-- this is known of each of them: both batches stay, and no step is left of a record
pub record StaysIdle (old new : Cached) : Type 0 where
  pub active : new.active ≡ old.active
  pub frozen : new.frozen ≡ old.frozen
  pub idle : new.log.steps_left ≡ 0
  pub head : new.log.head ≤ old.log.head + 1

-- the head goes past the oldest record, where that is flushed at home, by one write
pub record PassesHead (before after : State) (old new : Cached) : Type 0 where
  pub log : is_dead new ≡ false → new.log ≡ past old.log
  pub calls : is_dead new ≡ false → after.calls ≡ before.calls + pass_calls old.log
  pub most : after.calls ≤ before.calls + pass_calls old.log
  pub flushed : after.made Flush ≡ before.made Flush
  pub fewer : is_dead new ≡ false → steps_left new ≤ steps_left old
  pub dies : is_dead new ≡ true → HasDied before after old new
  pub stays : StaysIdle old new

-- one more block of the oldest record goes home
pub record BringsHome (before after : State) (old new : Cached) : Type 0 where
  pub log : is_dead new ≡ false → IsSentHome old.log new.log
  pub calls : is_dead new ≡ false → after.calls ≡ before.calls + next_calls old.log
  pub most : after.calls ≤ before.calls + next_calls old.log
  pub flushed : after.made Flush ≡ before.made Flush
  pub sent : SendsUpTo (next_sends old.log) before after
  pub fewer : is_dead new ≡ false → steps_left new < steps_left old
  pub head : new.log.head ≡ old.log.head
  pub dies : is_dead new ≡ true → HasDied before after old new
  pub stays : StaysIdle old new

-- Where it is good, the log is this one, by exactly count calls. None of its calls is a flush,
-- good or refused. At most `most` records are passed, and whether the store is live it tells.
pub record GoesAhead (result : Result (Unit {0}) StoreFault) (is : LogValue) (count most : ℕ)
    (before after : State) (old new : Cached) : Type 0 where
  pub log : is_dead new ≡ false → new.log ≡ is
  pub calls : is_dead new ≡ false → after.calls ≡ before.calls + count
  pub flushed : after.made Flush ≡ before.made Flush
  pub stays : StaysIdle old new
  pub head : new.log.head ≤ old.log.head + most
  pub answer : TellsLife result new

-- The flush of a record that became durable counts for the oldest one, where it covers that.
abbrev pub with_counted : Cached → Cached
with_counted s = record s { log = counted s.log }

-- a flush is counted where it covers the oldest record: the medium and the store's life stay
pub record SettlesFlush {M : Type 0} (state : M → State) (Follows : M → M → Type 0)
    (old new : StoreValue M) : Type 0 where
  pub keeps : KeepsMedium state Follows IsTurn old new
  pub is : new ≡ record old { cached = with_counted old.cached }
  pub fewer : steps_left new.cached ≤ steps_left old.cached
  pub head : new.cached.log.head ≡ old.cached.log.head
  pub stays : StaysIdle old.cached new.cached
  pub life : is_dead new.cached ≡ is_dead old.cached

-- the oldest record is brought on in this way, and that is told
pub record GoesBy {M : Type 0} (state : M → State) (Follows : M → M → Type 0) (sends : ℕ)
    (Way : State → State → Cached → Cached → Type 0) (result : Result (Unit {0}) StoreFault)
    (old new : StoreValue M) : Type 0 where
  pub passes : PassesPaid state Follows sends old new
  pub way : Way (state old.medium) (state new.medium) old.cached new.cached
  pub answer : TellsLife result new.cached
