-- What a store does in the background: steps, one by one.
use Rattle.std.specs.Prelude.{◌≡◌, ◌≢◌, ◌⊎◌, ◌↔◌, ℕ, zero, suc, ◌*◌, ◌<◌, ◌≤◌, Bool, false, length}
use Rattle.window.specs.Window.{state_of, ComesAfter}
use Rattle.blocks.specs.{Passing.PassesOn, Settled.IsSettled, StoreValue.{is_dead, steps_left}}
use Rattle.blocks.specs.{Turns.IsTurn, declared.work.Work.Work}
use Rattle.blocks.specs.declared.work.Work.TheVariants.{Settle, Ahead}
use Rattle.store_calls.specs.{Calls.IsStep}
use Rattle.store_calls.specs.Rooms.{Appends, RefusesNothing, IsRoomy, HoldsLog, most_waiting}
use Rattle.store_calls.specs.{Stores.Store}

-- so few calls wait that a step is made
abbrev pub IsShort : Store → Type 0
IsShort s = length s.medium.outbox ≤ most_waiting

-- no step is left, as `Store::is_settled` tells
abbrev pub IsAllDone : Store → Type 0
IsAllDone s = (is_dead s.cached ≡ false) × (steps_left s.cached ≡ 0)

-- a step of which this holds before it
abbrev pub Before : (Store → Type 0) → Store → Store → Type 0
Before May old new = May old

-- so many steps that work towards this, one by one, each as this says
abbrev pub StepsOn : (Store → Store → Type 0) → Work → ℕ → Store → Store → Type 0
StepsOn May work zero old new = new ≡ old
StepsOn May work (suc count) old new = (mid : Store) × StepsOn May work count old mid × May mid new
    × IsStep work mid new

-- So many steps, which make at most two calls each, and together one turn of the store. None of
-- their calls is refused in an outbox that has the room for what steps leave there.
pub record AreSteps (May : Store → Store → Type 0) (work : Work) (count : ℕ) (old new : Store)
    : Type 0 where
  pub steps : StepsOn May work count old new
  pub passes : PassesOn state_of ComesAfter IsTurn (2 * count) (2 * count) old new
  pub refuses : RefusesNothing (IsRoomy old) (HoldsLog old) old.medium new.medium

-- a step is left, and few calls wait
pub record MaySettle (s : Store) : Type 0 where
  pub left : ¬ IsAllDone s
  pub short : IsShort s

-- Steps towards rest, each made while one is left and few calls wait: 32, or all that are.
pub record MakesSteps (old new : Store) : Type 0 where
  pub count : ℕ
  pub few : count ≤ 32
  pub made : AreSteps (Before MaySettle) Settle count old new
  pub ends : (count ≡ 32) ⊎ (IsAllDone new ⊎ (¬ IsShort new))
  pub appends : Appends (IsRoomy old) old new

-- and whether some are left is told
pub record TellsLeft (old new : Store) (left : Bool) : Type 0 where
  pub makes : MakesSteps old new
  pub none_left : (left ≡ false) ↔ IsAllDone new
  pub at_home : left ≡ false → IsSettled (state_of new.medium) new.cached

-- a step ahead, made while few calls wait, asked the device for something
pub record AsksAhead (old new : Store) : Type 0 where
  pub short : IsShort old
  pub asks : length new.medium.outbox ≢ length old.medium.outbox

-- No more steps ahead are made, since 64 were or many calls wait; or one more was made, and asked
-- the device for nothing: none was to be made.
abbrev pub EndsAhead : ℕ → Store → Store → Type 0
EndsAhead count mid new = (((count ≡ 64) ⊎ (¬ IsShort mid)) × (new ≡ mid))
    ⊎ ((count < 64) × IsShort mid × IsStep Ahead mid new
    × (length new.medium.outbox ≡ length mid.medium.outbox))

-- Steps ahead of the next record, each of which asked for something while few calls waited; the
-- first that asks for nothing is the last one. The head goes past a record, and blocks go home.
pub record GoesAhead (old new : Store) : Type 0 where
  pub count : ℕ
  pub few : count ≤ 64
  pub mid : Store
  pub made : AreSteps AsksAhead Ahead count old mid
  pub ends : EndsAhead count mid new
  pub appends : Appends (IsRoomy old) old new
  pub turn : IsTurn (state_of old.medium) (state_of new.medium) old.cached new.cached
