-- A call of a medium that was told before it was made: what it does, made or refused.
use Rattle.std.specs.Prelude.{◌≡◌, ◌⊎◌, ℕ, ◌<◌, List, Result, OnOk}
use Rattle.medium.specs.Medium.{State, Stays, Holds, Within, Gains, Only, Passes, LooksOnly}
use Rattle.medium.specs.Moments.{SparesFrom}
use Rattle.medium.specs.declared.fault.MediumFault.{MediumFault}
use Rattle.medium.specs.declared.fault.MediumFault.TheVariants as fault
use Rattle.medium.specs.declared.medium_call.Call.{Call}
use Rattle.medium.specs.declared.medium_call.Call.TheVariants.{Read, Write, Flush}

-- the fault with which a medium refuses this call
abbrev pub fault_of : Call → MediumFault
fault_of (Read place) = fault.Read
fault_of (Write place) = fault.Write
fault_of Flush = fault.Flush

-- how many writes and flushes it is, and how many flushes
abbrev pub sends_of : Call → ℕ
sends_of (Read place) = 0
sends_of (Write place) = 1
sends_of Flush = 1

abbrev pub flushes_of : Call → ℕ
flushes_of (Read place) = 0
flushes_of (Write place) = 0
flushes_of Flush = 1

-- the call reads and writes no sector behind these
abbrev pub IsWithin : ℕ → Call → Type 0
IsWithin size (Read place) = place < size
IsWithin size (Write place) = place < size
IsWithin size Flush = Unit {0}

-- it reads no sector from this one on
abbrev pub ReadsBefore : ℕ → Call → Type 0
ReadsBefore end (Read place) = place < end
ReadsBefore end (Write place) = Unit {0}
ReadsBefore end Flush = Unit {0}

-- the sector that it reads
abbrev pub IsReadBy : Call → ℕ → Type 0
IsReadBy (Read place) s = s ≡ place
IsReadBy (Write place) s = ⊥
IsReadBy Flush s = ⊥

-- what it may add, with these bytes in the lent sector, to what a cut leaves
abbrev pub MayAdd : Call → List ℕ → State → State → Type 0
MayAdd (Read place) bytes old new = Within new.may_leave old.may_leave
MayAdd (Write place) bytes old new = Gains place bytes old.may_leave new.may_leave
MayAdd Flush bytes old new = Within new.may_leave old.may_leave

-- what it may change, made or refused
abbrev pub MayChange : Call → List ℕ → State → State → Type 0
MayChange (Read place) bytes old new = Stays old.content new.content
MayChange (Write place) bytes old new =
    Stays old.content new.content ⊎ Holds place bytes old.content new.content
MayChange Flush bytes old new = Stays old.content new.content

-- what it does, where it is not refused: the lent sector has these bytes before and those after
abbrev pub IsDone : Call → List ℕ → List ℕ → State → State → Type 0
IsDone (Read place) bytes after old new = after ≡ old.content place
IsDone (Write place) bytes after old new = Holds place bytes old.content new.content
IsDone Flush bytes after old new = Stays old.content new.content × Only old.content new.may_leave

-- The call is made, or it is refused: a write goes to its own sector alone.
pub record Performed (call : Call) (bytes after : List ℕ) (result : Result (Unit {0}) MediumFault)
    (old new : State) : Type 0 where
  pub done : OnOk result (IsDone call bytes after old new)
  pub changes : MayChange call bytes old new
  pub adds : MayAdd call bytes old new
  pub passes : Passes (fault_of call) result old new
  pub spares : (first : ℕ) → IsWithin first call → SparesFrom first old new
  pub looks : (end : ℕ) → ReadsBefore end call → LooksOnly (λ s. s < end) old new
  pub names : LooksOnly (IsReadBy call) old new
