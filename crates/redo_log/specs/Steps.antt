-- What a call of a log answers, and what it leaves of its medium.
use Rattle.std.specs.Prelude.{◌≡◌, ℕ, ◌+◌, ◌-◌, ◌*◌, ◌^◌, ◌<◌, ◌≤◌, ◌↔◌, Bool, true, false, List}
use Rattle.std.specs.Prelude.{[], IsTrue, if◌then◌else◌, Result, Ok, is_ok, IsOk, IfOk, IfErr, OnOk}
use Rattle.std.specs.Prelude.{OnErr, MatchResult, length}
use Rattle.medium.specs.{Medium.{State, LooksOnly, Passes}, Sent.SendsUpTo}
use Rattle.medium.specs.declared.fault.MediumFault.{MediumFault}
use Rattle.medium.specs.{declared.fault.MediumFault.TheVariants.{Read, Flush}, Moments.EachCut}
use Rattle.medium.specs.Moments.{LeavesOnly, SparesFrom, IsQuiet}
use Rattle.journal.specs.{Places.sectors_of, Format2.firsts_of, Record.{Entry, entries_of}}
use Rattle.redo_log.specs.declared.fault.LogFault.TheVariants.{Medium, StampsUsedUp, NoMemory}
use Rattle.redo_log.specs.Value.{LogValue, died, begun, most_steps, most_retire_steps, IsStepped}
use Rattle.redo_log.specs.Value.{Owes, IsAway, IsSentHome, IsRetireStepped, FlushesUpTo, IsReadBack}
use Rattle.redo_log.specs.Value.{next_step_flushes, next_calls, next_sends, next_turn_flushes}
use Rattle.redo_log.specs.{Value.{ahead_calls, pass_calls, CanPass}, Held.{View, HoldsView}}
use Rattle.redo_log.specs.Held.{MayLeave, HasDurable, with_record, view_stepped, view_retired}
use Rattle.redo_log.specs.{declared.fault.LogFault.LogFault, declared.progress.Progress.Progress}
use Rattle.redo_log.specs.{declared.progress.Progress.TheVariants.Durable, Told.{CallMade, IsNext}}
use Rattle.redo_log.specs.Told.{TurnMade}

-- a step that answers Ok did this, and else the medium refused a call, and the log is dead
pub record AnswersStep {X : Type 0} (Done : X → Type 0) (result : Result X LogFault)
    (old new : LogValue) : Type 0 where
  pub ok : IfOk result Done
  pub err : OnErr result (new ≡ died old)
  pub fault : IfErr result (λ fault. fault ≡ Medium)

-- A step makes calls of the medium that are counted: none is refused but the last one, which it
-- answers. The medium comes after what it was, by calls alone.
pub record PassesStep {M X E : Type 0} (state : M → State) (Follows : M → M → Type 0)
    (Counted : Type 0) (result : Result X E) (old new : M) : Type 0 where
  pub calls : Counted
  pub failures : (state new).failures
      ≡ (if is_ok result then (state old).failures else (state old).failures + 1)
  pub size : (state new).size ≡ (state old).size
  pub follows : Follows old new

-- A step makes one call, which is a write or a flush. It makes this many flushes.
pub record CountsOne (flushes : ℕ) (old new : State) : Type 0 where
  pub one : new.calls ≡ old.calls + 1
  pub sent : SendsUpTo 1 old new
  pub flushed : new.made Flush ≡ old.made Flush + flushes

-- A retire step makes count calls where it is good, and no more where it is refused. They are never
-- more than two. At most `sends` of them are writes and flushes, and `flushes` are flushes.
pub record CountsStep {X E : Type 0} (count sends flushes : ℕ) (result : Result X E)
    (old new : State) : Type 0 where
  pub two : new.calls ≤ old.calls + 2
  pub most : new.calls ≤ old.calls + count
  pub exact : OnOk result (new.calls ≡ old.calls + count)
  pub sent : SendsUpTo sends old new
  pub flushed : FlushesUpTo flushes result old new

-- a step of this log leaves at each moment what a cut may leave of it
pub record LeavesLog (log : LogValue) (old new : State) : Type 0 where
  pub cuts : (view : View) → HoldsView log old view → view.ours ≡ true
      → LeavesOnly (MayLeave old.size log view) old new
  pub moments : LeavesOnly (λ _. Unit {0}) old new
  -- no sector behind the image is written
  pub spares : SparesFrom (sectors_of log.shape) old new
  -- no sector at home or behind is read, and none where the blocks are kept
  pub looks : LooksOnly (IsReadBack log) old new

-- A call writes nothing: the medium holds what it held of this log, and a cut leaves no more. The
-- medium comes after what it was, by calls alone.
pub record KeepsLog {M : Type 0} (state : M → State) (Follows : M → M → Type 0) (log : LogValue)
    (old new : M) : Type 0 where
  pub quiet : IsQuiet (state old) (state new)
  pub holds : (view : View) → HoldsView log (state old) view → HoldsView log (state new) view
  pub cuts : (view : View) → HoldsView log (state old) view → view.ours ≡ true
      → LeavesOnly (MayLeave (state old).size log view) (state old) (state new)
  -- no sector at home or behind is read, and none where the blocks are kept
  pub looks : LooksOnly (IsReadBack log) (state old) (state new)
  pub follows : Follows old new

-- A copy of a block is read by one read, or no call is made where the blocks are kept.
abbrev pub ReadsCopy : {M : Type 0} → (M → State) → Bool → Result (Unit {0}) MediumFault → M → M
    → Type 0
ReadsCopy state false result old new = Passes Read result (state old) (state new)
ReadsCopy state true result old new = IsOk result × (new ≡ old)

-- a log is made with this value, or no memory is left for it
pub record MakesLog (value : LogValue) (result : Result LogValue LogFault) : Type 0 where
  pub ok : IfOk result (λ log. log ≡ value)
  pub err : IfErr result (λ fault. fault ≡ NoMemory)

-- a log that is alive, on a medium that has all of its sectors
pub record IsOn (log : LogValue) (m : State) : Type 0 where
  pub live : log.dead ≡ false
  pub fits : sectors_of log.shape ≤ m.size

-- the next call of the record under way, of these blocks, can be made on this medium
pub record CanStep (log : LogValue) (numbers bytes : List ℕ) (m : State) : Type 0 where
  pub on : IsOn log m
  pub under_way : 0 < log.steps_left
  pub numbers_are : numbers ≡ log.under_way
  pub size : length bytes ≡ 512 * length numbers

-- This is so, or that is. (What cites a record with such a field need not go through its cases.)
unfoldable pub Unless : Type 0 → Type 0 → Type 0
Unless None Made = ¬ None → Made

-- A call makes the next turn of the log's oldest record, or where there is none nothing. A view is
-- afterwards as this function has it.
pub record MakesTurns {M : Type 0} (state : M → State) (Follows : M → M → Type 0)
    (None Done Counted : Type 0) (after : View → View) (result : Result (Unit {0}) LogFault)
    (old new : LogValue) (m n : M) : Type 0 where
  pub none : None → IsOk result × (new ≡ old) × (n ≡ m)
  pub answers : AnswersStep (λ _. Done) result old new
  pub passes : PassesStep state Follows Counted result m n
  pub holds : (view : View) → HoldsView old (state m) view
      → MatchResult result (λ _. HoldsView new (state n) (after view))
      (λ _. HoldsView new (state n) view)
  pub leaves : LeavesLog old (state m) (state n)
  -- the calls that it made are those that the log tells
  pub told : Unless None (TurnMade state old (is_ok result) m n)

-- a retire step is made
abbrev pub MakesRetireStep : {M : Type 0} → (M → State) → (M → M → Type 0)
    → Result (Unit {0}) LogFault → (old new : LogValue) → M → M → Type 0
MakesRetireStep state Follows result old new m n = MakesTurns state Follows (old.waiting ≡ [])
    (0 < length old.waiting → IsRetireStepped old new) (CountsStep (next_calls old)
    (next_sends old) (next_turn_flushes old) result (state m) (state n))
    (view_retired (new.head - old.head)) result old new m n

-- a block of the oldest record goes home ahead
abbrev pub MakesHomeAhead : {M : Type 0} → (M → State) → (M → M → Type 0)
    → Result (Unit {0}) LogFault → (old new : LogValue) → M → M → Type 0
MakesHomeAhead state Follows result old new m n = MakesTurns state Follows (¬ IsAway old)
    (IsAway old → IsSentHome old new) (CountsStep (ahead_calls old) (next_sends old) 0 result
    (state m) (state n)) (λ view. view) result old new m n

-- the head goes ahead past it
abbrev pub MakesHeadAhead : {M : Type 0} → (M → State) → (M → M → Type 0)
    → Result (Unit {0}) LogFault → (old new : LogValue) → M → M → Type 0
MakesHeadAhead state Follows result old new m n = MakesTurns state Follows (¬ CanPass old)
    (CanPass old → IsRetireStepped old new) (CountsStep (pass_calls old) (pass_calls old) 0 result
    (state m) (state n)) (view_retired (new.head - old.head)) result old new m n

-- a medium holds this log once a retire step of it is counted
abbrev pub HoldsCounted : LogValue → State → View → Type 0
HoldsCounted log m view = (next : LogValue) → IsRetireStepped log next
    → HoldsView next m (view_retired (next.head - log.head) view)

-- The calls of a retire step of this log are made, or one of them is refused. The log itself does
-- not count the step yet.
pub record BringsOn {M : Type 0} (state : M → State) (Follows : M → M → Type 0) (Counted : Type 0)
    (result : Result (Unit {0}) MediumFault) (log : LogValue) (m n : M) : Type 0 where
  pub passes : PassesStep state Follows Counted result m n
  pub leaves : LeavesLog log (state m) (state n)
  -- given up, the log and the medium hold what they held
  pub dead : (view : View) → HoldsView log (state m) view → HoldsView (died log) (state n) view
  -- where no call is refused, they do so with the step counted
  pub counted : (view : View) → HoldsView log (state m) view
      → OnOk result (HoldsCounted log (state n) view)
  -- and with the turn counted that brings a block home ahead
  pub sent : IsAway log → (view : View) → HoldsView log (state m) view → (next : LogValue)
      → IsSentHome log next → OnOk result (HoldsView next (state n) view)
  pub told : TurnMade state log (is_ok result) m n

-- The calls of the next retire step, of which so many are made, bring this log on.
abbrev pub TurnsOn : {M : Type 0} → (M → State) → (M → M → Type 0) → Result (Unit {0}) MediumFault
    → LogValue → M → M → Type 0
TurnsOn state Follows result log m n = BringsOn state Follows (CountsStep (next_calls log)
    (next_sends log) (next_turn_flushes log) result (state m) (state n)) result log m n

-- The next call of the record under way, which is one of these entries, is made, or it is refused.
-- The log itself does not count it yet.
pub record StepCalled (entries : List Entry) (result : Result (Unit {0}) MediumFault)
    (log : LogValue) (old new : State) : Type 0 where
  pub counts : CountsOne (next_step_flushes log) old new
  pub failures : new.failures ≡ (if is_ok result then old.failures else old.failures + 1)
  pub size : new.size ≡ old.size
  pub leaves : LeavesLog log old new
  -- given up, the log and the medium hold what they held
  pub dead : (view : View) → HoldsView log old view → HoldsView (died log) new view
  -- where the call is not refused, they do so with the call counted
  pub counted : (view : View) → HoldsView log old view → view.under_way ≡ entries
      → (progress : Progress) → (next : LogValue) → IsStepped progress log next
      → OnOk result (HoldsView next new (view_stepped progress view))
  -- with the last one the record is whole in every image that a cut may leave
  pub durable : (view : View) → HoldsView log old view → view.under_way ≡ entries
      → view.ours ≡ true → (next : LogValue) → IsStepped Durable log next
      → OnOk result (EachCut (HasDurable new.size next (with_record view)) new)
  pub told : CallMade (IsNext entries log) (is_ok result) old new

-- A call makes the next step of the record under way, which is one of these entries.
pub record MakesStep {M : Type 0} (state : M → State) (Follows : M → M → Type 0)
    (entries : List Entry) (result : Result Progress LogFault) (old new : LogValue) (m n : M)
    : Type 0 where
  pub answers : AnswersStep (λ progress. IsStepped progress old new) result old new
  pub passes : PassesStep state Follows (CountsOne (next_step_flushes old) (state m) (state n))
      result m n
  pub holds : (view : View) → HoldsView old (state m) view → view.under_way ≡ entries
      → MatchResult result (λ progress. HoldsView new (state n) (view_stepped progress view))
      (λ _. HoldsView new (state n) view)
  -- told durable, the record is whole in every image that a cut may leave
  pub durable : (view : View) → HoldsView old (state m) view → view.under_way ≡ entries
      → view.ours ≡ true → result ≡ Ok Durable
      → EachCut (HasDurable (state n).size new (with_record view)) (state n)
  pub leaves : LeavesLog old (state m) (state n)
  -- the call that it made is the one that the log tells
  pub told : CallMade (IsNext entries old) (is_ok result) (state m) (state n)

-- A record of these blocks is begun, which takes so few steps at most, or no stamp is left for it.
pub record BeginsRecord (numbers bytes : List ℕ) (result : Result (Unit {0}) LogFault)
    (old new : LogValue) : Type 0 where
  pub ok : OnOk result ((old.next < 2 ^ 63 - 1)
      × (new ≡ begun numbers (firsts_of (entries_of numbers bytes)) bytes old))
  pub err : IfErr result (λ fault. (fault ≡ StampsUsedUp) × (old.next ≡ 2 ^ 63 - 1)
      × (new ≡ died old))
  pub short : OnOk result ((0 < new.steps_left) × (new.steps_left ≤ most_steps old.shape.format))
  pub few : OnOk result
      (new.retire_steps_left ≤ most_retire_steps old.shape.format * old.shape.slots)

-- It is told whether no durable record waits, and what is owed to those that do.
pub record TellsRetired (told : Bool) (log : LogValue) : Type 0 where
  pub none : IsTrue told ↔ (log.waiting ≡ [])
  pub owes : Owes log
