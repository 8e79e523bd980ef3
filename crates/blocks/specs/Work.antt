-- What one step of the background work does, by what it works towards.
use Rattle.std.specs.Prelude.{◌≡◌, ◌⊎◌, ◌<◌, ◌≤◌, Bool, true, false, Result, length}
use Rattle.medium.specs.{Medium.State, Moments.IsUnchanged}
use Rattle.medium.specs.declared.fault.MediumFault.TheVariants.{Flush}
use Rattle.redo_log.specs.Value.{CanPass, IsAway}
use Rattle.theorems.specs.Room.{MayWrite}
use Rattle.blocks.specs.Background.{with_counted, IsBackgroundStep, HasDied, LeavesFewer, MayBegin}
use Rattle.blocks.specs.Background.{IsBeginning, IsRecordStep, IsRetiring, PassesHead, BringsHome}
use Rattle.blocks.specs.{Headroom.{KeepsHeadroom, FlushesOnce}, Passing.{PassesOn, TellsLife}}
use Rattle.blocks.specs.{Passing.MayEmpty, StoreValue.{Cached, StoreValue, is_dead, active_of}}
use Rattle.blocks.specs.{StoreValue.steps_left, Turns.IsTurn, Written.IsWritten}
use Rattle.blocks.specs.declared.work.Work.{TheVariants.{Settle, Ahead, WriteBack}, Work}
use Rattle.blocks.specs.declared.fault.StoreFault.{StoreFault}

-- What a step ahead does once a flush is counted, by no flush: the head goes past the oldest record
-- where it may, or one more of its blocks goes home, or nothing is done.
pub record GoesOnAhead (before after : State) (old new : Cached) : Type 0 where
  pub passes : CanPass old.log → PassesHead before after old new
  pub brings : IsAway old.log → BringsHome before after old new
  pub rests : ¬ CanPass old.log → ¬ IsAway old.log → (new ≡ old) × IsUnchanged before after
  pub flushed : after.made Flush ≡ before.made Flush
  pub active : new.active ≡ old.active
  pub frozen : new.frozen ≡ old.frozen
  pub dies : is_dead new ≡ true → HasDied before after old new

-- One step ahead: none of a store that is dead, does not go ahead, or writes a record.
pub record IsAheadStep (ahead : Bool) (before after : State) (old new : Cached) : Type 0 where
  pub dead : is_dead old ≡ true → (new ≡ old) × IsUnchanged before after
  pub plain : ahead ≡ false → (new ≡ old) × IsUnchanged before after
  pub under_way : 0 < old.log.steps_left → (new ≡ old) × IsUnchanged before after
  pub goes : ahead ≡ true → is_dead old ≡ false → old.log.steps_left ≡ 0
      → GoesOnAhead before after (with_counted old) new

-- Room is made, once a flush is counted: by a step ahead, or the oldest record is retired.
pub record MakesWay (before after : State) (old new : Cached) : Type 0 where
  pub goes : (CanPass old.log ⊎ IsAway old.log) → GoesOnAhead before after old new
  pub retires : ¬ (CanPass old.log ⊎ IsAway old.log) → IsRetiring before after old new

-- where the store does not go ahead, it is retired by one step
abbrev pub MakesWayBy : Bool → State → State → Cached → Cached → Type 0
MakesWayBy true before after old new = MakesWay before after (with_counted old) new
MakesWayBy false before after old new = IsRetiring before after old new

-- One step that writes back, where a record is left to write: the one under way goes on, or the
-- next batch is begun where it may be, or room is made for it.
pub record IsWriteBackStep (ahead : Bool) (before after : State) (old new : Cached)
    : Type 0 where
  pub written : IsWritten old → (new ≡ old) × IsUnchanged before after
  pub goes_on : ¬ IsWritten old → 0 < old.log.steps_left → IsRecordStep before after old new
  pub begins : ¬ IsWritten old → MayWrite ahead old.log → IsBeginning before after old new
  pub makes_way : ¬ IsWritten old → old.log.steps_left ≡ 0 → ¬ MayWrite ahead old.log
      → MakesWayBy ahead before after old new

-- one step of the background work, by what it works towards
abbrev pub IsWork : Work → Bool → State → State → Cached → Cached → Type 0
IsWork Settle ahead before after old new = IsBackgroundStep ahead before after old new
IsWork Ahead ahead before after old new = IsAheadStep ahead before after old new
IsWork WriteBack ahead before after old new = IsWriteBackStep ahead before after old new

-- A step towards rest leaves fewer, where there was one and the store lives; one ahead never more;
-- and one that writes back fewer as long as a record is left to write.
abbrev pub LeavesBy : Work → Cached → Cached → Type 0
LeavesBy Settle old new = LeavesFewer old new
LeavesBy Ahead old new = steps_left new ≤ steps_left old
LeavesBy WriteBack old new = is_dead new ≡ false → IsWritten old ⊎ (steps_left new < steps_left old)

-- A step towards rest retires where no record is under way and none may be begun. One ahead does so
-- by no flush, and so does one that writes back, where there is headroom.
abbrev pub RetiresNone : Work → Bool → Cached → Type 0
RetiresNone Settle ahead old = (0 < old.log.steps_left) ⊎ MayBegin ahead old
RetiresNone _ ahead old = Unit {0}

-- Each step leaves fewer, or no more. Where none is left, or the store is dead, nothing happens.
pub record CountsBy {M : Type 0} (work : Work) (old new : StoreValue M) : Type 0 where
  pub left : LeavesBy work old.cached new.cached
  pub rests : steps_left old.cached ≡ 0 → new ≡ old
  pub dead : is_dead old.cached ≡ true → new ≡ old

-- so does a step towards rest
abbrev pub CountsDown : {M : Type 0} → StoreValue M → StoreValue M → Type 0
CountsDown old new = CountsBy Settle old new

-- the store is live, and no record is under way
pub record IsIdle (s : Cached) : Type 0 where
  pub live : is_dead s ≡ false
  pub idle : s.log.steps_left ≡ 0

-- one step ahead is made of such a store, and told
pub record StepsAhead {M : Type 0} (state : M → State) (Follows : M → M → Type 0)
    (result : Result (Unit {0}) StoreFault) (old new : StoreValue M) : Type 0 where
  pub passes : PassesOn state Follows IsTurn 2 2 old new
  pub goes : GoesOnAhead (state old.medium) (state new.medium) old.cached new.cached
  pub left : steps_left new.cached ≤ steps_left old.cached
  pub rests : steps_left old.cached ≡ 0 → new ≡ old
  pub answer : TellsLife result new.cached

-- one step of this work is made, or none
pub record WorksBy {M : Type 0} (state : M → State) (Follows : M → M → Type 0) (work : Work)
    (old new : StoreValue M) : Type 0 where
  pub passes : PassesOn state Follows IsTurn 2 2 old new
  pub order : IsWork work old.goes_ahead (state old.medium) (state new.medium)
      old.cached new.cached
  pub steps : CountsBy work old new
  pub active : MayEmpty (active_of old.cached) (active_of new.cached)

-- It leaves headroom where there was some, and where it retires none, one flush is made for each
-- record that becomes durable.
pub record DoesWork {M : Type 0} (state : M → State) (Follows : M → M → Type 0) (work : Work)
    (old new : StoreValue M) : Type 0 where
  pub headroom : KeepsHeadroom old new
  pub once : RetiresNone work old.goes_ahead old.cached
      → FlushesOnce old.goes_ahead (state old.medium) (state new.medium) old.cached new.cached
  pub works : WorksBy state Follows work old new
  pub open works use *

-- A record waits to be retired, and none is under way.
pub record HasToRetire (s : Cached) : Type 0 where
  pub idle : IsIdle s
  pub waits : 0 < length s.log.waiting

-- room is made by one step, which leaves fewer, and both batches stay
pub record GoesTowardsRoom {M : Type 0} (state : M → State) (Follows : M → M → Type 0)
    (old new : StoreValue M) : Type 0 where
  pub passes : PassesOn state Follows IsTurn 2 2 old new
  pub way : MakesWayBy old.goes_ahead (state old.medium) (state new.medium) old.cached new.cached
  pub falls : is_dead new.cached ≡ false → steps_left new.cached < steps_left old.cached
  pub active : new.cached.active ≡ old.cached.active
