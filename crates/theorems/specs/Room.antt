-- Which slots of a ring are free, and what is left to do before the next record.
use Rattle.std.specs.Prelude.{◌≡◌, ◌⊎◌, ◌+◌, ◌-◌, ◌≤◌, ℕ, Bool, true, false}
-- handed on to the layers above
pub use Rattle.redo_log.specs.Value.{HasRoom}
use Rattle.redo_log.specs.Value.{LogValue, IsCovered, CanPass, IsAway}

-- at least count slots are free, of as many as there may be records at once
abbrev pub HasSlots : ℕ → LogValue → Type 0
HasSlots count log = (log.next - log.head) + count ≤ log.ring

-- where the store goes ahead three slots are free: one for the next record, and two besides
abbrev pub HasSpare : Bool → LogValue → Type 0
HasSpare ahead log = ahead ≡ true → HasSlots 3 log

-- the log has room for one record, and where the store goes ahead two slots besides
abbrev pub IsRoomy : Bool → LogValue → Type 0
IsRoomy false log = HasRoom log
IsRoomy true log = HasRoom log × HasSlots 3 log

-- Room is made for one record: none is retired where the log has room, and else one at most. Where
-- the store goes ahead one may be passed as long as fewer slots are free than three.
pub record RetiresForRoom (ahead : Bool) (old new : LogValue) : Type 0 where
  pub one : new.head ≤ old.head + 1
  pub roomy : IsRoomy ahead old → new.head ≡ old.head

-- Nothing is left to be done ahead of the next record, for the oldest one.
pub record RestsAhead (log : LogValue) : Type 0 where
  pub counted : ¬ IsCovered log
  pub past : ¬ CanPass log
  pub home : ¬ IsAway log

-- three slots are free, or nothing is left to be done
abbrev pub NeedsNoneAhead : LogValue → Type 0
NeedsNoneAhead log = HasSlots 3 log ⊎ RestsAhead log

-- No call is made for the room of the next record.
abbrev pub IsPrepared : Bool → LogValue → Type 0
IsPrepared false log = HasRoom log
IsPrepared true log = HasRoom log × NeedsNoneAhead log

-- Three slots are free, one for the next record and two besides; or two are, and no block of the
-- oldest record is away: the flush of the next one covers it.
abbrev pub SparesSlots : LogValue → Type 0
SparesSlots log = HasSlots 3 log ⊎ (HasSlots 2 log × (¬ IsAway log))

-- Writing back begins a record where the log has room, and a store that goes ahead spares slots.
pub record MayWrite (ahead : Bool) (log : LogValue) : Type 0 where
  pub room : HasRoom log
  pub spares : ahead ≡ true → SparesSlots log
