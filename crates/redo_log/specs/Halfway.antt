-- What a log and its medium hold halfway through a turn, and what whoever makes a told call leaves.
use Rattle.std.specs.Prelude.{◌≡◌, ℕ, ◌+◌, ◌-◌, ◌<◌, List, true, false, Result, OnOk, length}
use Rattle.std.specs.Prelude.{Some, ◌⊎◌}
use Rattle.medium.specs.Medium.{State, LooksOnly, Sets, Gains}
use Rattle.medium.specs.Moments.{LeavesOnly, SparesFrom, StaysWithin}
use Rattle.medium.specs.{declared.fault.MediumFault.MediumFault, declared.medium_call.Call.Call}
use Rattle.medium.specs.Performed.{IsWithin, Performed, sends_of, flushes_of}
use Rattle.journal.specs.{Places.{first_home, sectors_of}, Layout.part_at, Formats.layout_of}
use Rattle.journal.specs.{Record.Entry}
use Rattle.redo_log.specs.Value.{LogValue, died, of_oldest, IsSentHome, IsAway, CanPass, IsReadBack}
use Rattle.redo_log.specs.{Held.{View, HoldsView, MayLeave, made_of}, Shown.written_at}
use Rattle.redo_log.specs.Steps.{LeavesLog, IsOn, HoldsCounted, StepCalled}
use Rattle.redo_log.specs.Told.{IsFlushDue, IsNextCall, IsFirst, IsSecond, IsOneCall, copy_of}

-- The next call of the record under way, of so many blocks, writes the i-th one's data place.
pub record IsNextData (log : LogValue) (count place i : ℕ) : Type 0 where
  pub inside : i < count
  pub before : place < first_home log.shape
  pub due : ¬ IsFlushDue (layout_of log.shape.format) count (made_of log)
  pub written : written_at ((layout_of log.shape.format).before_barrier count) (made_of log)
      ≡ made_of log
  pub part : made_of log ≡ (layout_of log.shape.format).parts count - count - 1 + i
  pub place_is : place ≡ part_at (layout_of log.shape.format) log.shape
      (log.head + length log.waiting) count (made_of log)

-- the medium has the sector that the call names
abbrev pub CanMake : State → Call → Type 0
CanMake m call = IsWithin m.size call

-- A call is made with these bytes in the lent sector, or refused. The medium comes after what it
-- was, by calls alone.
pub record Makes {M : Type 0} (state : M → State) (Follows : M → M → Type 0) (call : Call)
    (bytes after : List ℕ) (result : Result (Unit {0}) MediumFault) (old new : M) : Type 0 where
  pub performed : Performed call bytes after result (state old) (state new)
  pub follows : Follows old new

-- what a cut may leave, with these bytes in one sector too
abbrev pub gaining : ℕ → List ℕ → Sets → Sets
gaining place bytes sets s c = sets s c ⊎ ((s ≡ place) × (c ≡ bytes))

-- one sector was written at most, with these bytes
pub record WritesOnly (place : ℕ) (bytes : List ℕ) (old new : State) : Type 0 where
  pub moments : StaysWithin (gaining place bytes old.may_leave) old new
  pub sets : Gains place bytes old.may_leave new.may_leave

-- This is the next call of the record under way, which is one of these entries, and with it go
-- these bytes. Whoever makes it on a medium that holds the log, on which it is made or refused, has
-- made a step.
pub record TellsStep {M : Type 0} (state : M → State) (entries : List Entry) (log : LogValue)
    (call : Call) (bytes : List ℕ) : Type 0 where
  pub inside : IsWithin (sectors_of log.shape) call
  pub call_is : IsNextCall (layout_of log.shape.format) log.shape (log.head + length log.waiting)
      entries (made_of log) call bytes
  pub law : (m n : M) (after : List ℕ) (result : Result (Unit {0}) MediumFault)
      → IsOn log (state m) → Performed call bytes after result (state m) (state n)
      → StepCalled entries result log (state m) (state n)

-- ---- a turn, call by call

-- this medium, if all that it holds were durable
abbrev pub flushed : State → State
flushed m = record m { may_leave = λ s c. c ≡ m.content s }

-- a medium holds this log once a block of its oldest record is counted that went home
abbrev pub HoldsSent : LogValue → State → View → Type 0
HoldsSent log m view = (next : LogValue) → IsSentHome log next → HoldsView next m view

-- The first call of the next turn is made, and left these bytes in the lent sector. Where a block
-- goes home that is not kept, these are its copy; where it is kept, or the blocks are flushed at
-- home, the turn is made; and where the head goes past the record, a flush makes it so.
pub record HoldsHalf (log : LogValue) (had : List ℕ) (m : State) (view : View) : Type 0 where
  pub dead : HoldsView (died log) m view
  pub home : 2 < of_oldest log → log.keeps ≡ false
      → HoldsView log m view × (had ≡ m.content (copy_of log))
  pub kept : 2 < of_oldest log → log.keeps ≡ true → HoldsSent log m view
  pub one : IsOneCall log → HoldsCounted log m view
  pub head : of_oldest log ≡ 1 → HoldsCounted log (flushed m) view

-- so many writes and flushes, and flushes
abbrev pub Counts : Call → ℕ → ℕ → Type 0
Counts call sends flushes = (sends_of call ≡ sends) × (flushes_of call ≡ flushes)

-- the first call of a turn is made, or refused
pub record TurnBegun (log : LogValue) (had : List ℕ) (result : Result (Unit {0}) MediumFault)
    (old new : State) : Type 0 where
  pub leaves : LeavesLog log old new
  pub dead : (view : View) → HoldsView log old view → HoldsView (died log) new view
  pub half : (view : View) → HoldsView log old view → OnOk result (HoldsHalf log had new view)
  -- The head is written past the record and not flushed, where it may be.
  pub passed : (view : View) → HoldsView log old view → CanPass log
      → OnOk result (HoldsCounted log new view)

-- the second call of a turn, which found these bytes in the lent sector, is made, or refused
pub record TurnEnded (log : LogValue) (had : List ℕ) (result : Result (Unit {0}) MediumFault)
    (old new : State) : Type 0 where
  pub cuts : (view : View) → HoldsHalf log had old view → view.ours ≡ true
      → LeavesOnly (MayLeave old.size log view) old new
  pub dead : (view : View) → HoldsHalf log had old view → HoldsView (died log) new view
  pub spares : SparesFrom (sectors_of log.shape) old new
  pub looks : LooksOnly (IsReadBack log) old new
  pub done : (view : View) → HoldsHalf log had old view → OnOk result (HoldsCounted log new view)
  -- a block that goes home ahead leaves the records as they are
  pub sent : (view : View) → HoldsHalf log had old view → IsAway log → (next : LogValue)
      → IsSentHome log next → OnOk result (HoldsView next new view)

-- This is the first call of the next turn, and with it go these bytes.
pub record TellsFirst {M : Type 0} (state : M → State) (log : LogValue) (call : Call)
    (bytes : List ℕ) : Type 0 where
  pub inside : IsWithin (sectors_of log.shape) call
  pub call_is : IsFirst log call bytes
  pub home : 2 < of_oldest log → log.keeps ≡ false → Counts call 0 0
  pub kept : 2 < of_oldest log → log.keeps ≡ true → Counts call 1 0
  pub flush : of_oldest log ≡ 2 → Counts call 1 1
  pub head : of_oldest log ≡ 1 → Counts call 1 0
  pub law : (m n : M) (after : List ℕ) (result : Result (Unit {0}) MediumFault)
      → IsOn log (state m) → Performed call bytes after result (state m) (state n)
      → TurnBegun log after result (state m) (state n)

-- This is the second call, where there is one, and with it go these bytes. The first one left the
-- others.
pub record TellsSecond {M : Type 0} (state : M → State) (log : LogValue) (had : List ℕ)
    (call : Call) (bytes : List ℕ) : Type 0 where
  pub inside : IsWithin (sectors_of log.shape) call
  pub call_is : IsSecond log had (Some call) bytes
  pub home : 2 < of_oldest log → Counts call 1 0
  pub two : ¬ IsOneCall log
  pub head : of_oldest log ≡ 1 → Counts call 1 1
  pub law : (m n : M) (after : List ℕ) (result : Result (Unit {0}) MediumFault)
      → IsOn log (state m) → Performed call bytes after result (state m) (state n)
      → TurnEnded log had result (state m) (state n)
