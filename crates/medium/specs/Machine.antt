-- A machine that tells its next call of a medium, and what its calls leave.
use Rattle.std.specs.Prelude.{◌≡◌, ℕ, ◌+◌, ◌≤◌, ◌<◌, List, Result, Ok, Err, OnOk}
use Rattle.medium.specs.Medium.{State, Image, LooksOnly}
use Rattle.medium.specs.Moments.{LeavesOnly, SparesFrom}
use Rattle.medium.specs.Tally.{Tally, of_kind, of_all, one_more, none}
use Rattle.medium.specs.Performed.{IsWithin, ReadsBefore, Performed, fault_of}
use Rattle.medium.specs.declared.fault.MediumFault.{MediumFault}
use Rattle.medium.specs.declared.medium_call.Call.{Call}

-- a medium on which the machine may go on has the sectors that it names
abbrev pub HasRoom : {S : Type 0} → (S → ℕ → Type 0) → (S → ℕ) → Type 0
HasRoom {S} fits ends = (machine : S) (size : ℕ) → fits machine size → ends machine ≤ size

-- what the calls may name stays, and it may go on where it could
pub record GoesOn {S : Type 0} (fits : S → ℕ → Type 0) (reads ends : S → ℕ) (machine next : S)
    : Type 0 where
  pub reads_stay : reads next ≡ reads machine
  pub ends_stay : ends next ≡ ends machine
  pub fits_still : (size : ℕ) → fits machine size → fits next size

-- what is left is at most this, and where the number is exact it is this
pub record IsLeft (Exact : Type 0) (left rest : Tally) : Type 0 where
  pub most : (kind : MediumFault) → of_kind left kind ≤ of_kind rest kind
  pub exact : Exact → left ≡ rest

-- This is the next call of the machine, and with it go these bytes. Whoever makes it on a medium
-- that fits the machine, and then tells the machine how it ended, has the two hold what they held.
pub record TellsCall {M S V : Type 0} (state : M → State) (fits : S → ℕ → Type 0)
    (holds : S → List ℕ → M → V → Type 0) (reads ends : S → ℕ) (cost : S → Tally)
    (Exact : Type 0) (Due : S → Type 0) (After : S → List ℕ → S → Type 0) (Gone : S → S → Type 0)
    (machine : S) (had : List ℕ) (call : Call) (bytes : List ℕ) : Type 0 where
  pub due : Due machine
  pub within : IsWithin (ends machine) call
  pub looks : ReadsBefore (reads machine) call
  pub made : (m n : M) (got : List ℕ) (view : V) (next : S) → fits machine (state m).size
      → holds machine had m view → Performed call bytes got (Ok tt) (state m) (state n)
      → After machine got next → holds next got n view
  pub refused : (m n : M) (got : List ℕ) (view : V) (next : S) (e : MediumFault)
      → fits machine (state m).size → holds machine had m view
      → Performed call bytes got (Err e) (state m) (state n) → Gone machine next
      → holds next got n view
  -- it is one of those that are left
  pub rest : Tally
  pub pays : cost machine ≡ one_more rest (fault_of call)
  pub rests : (got : List ℕ) (next : S) → After machine got next → IsLeft Exact (cost next) rest

-- how many calls of each kind were refused where this is the end of it
abbrev pub refused_by : Result (Unit {0}) MediumFault → Tally
refused_by (Ok done) = none
refused_by (Err fault) = one_more none fault

-- One tally of the calls that were made: those that were left, but for the rest and for those that
-- a machine was spared which knows no exact number. How many calls there were, and how many reads,
-- writes and flushes, are its readings.
pub record Tallied (Exact : Type 0) (left rest : Tally)
    (result : Result (Unit {0}) MediumFault) (old new : State) : Type 0 where
  pub tally : Tally
  pub sums : (kind : MediumFault) → of_kind tally kind + of_kind rest kind ≤ of_kind left kind
  pub exact : Exact
      → (kind : MediumFault) → of_kind tally kind + of_kind rest kind ≡ of_kind left kind
  pub calls : new.calls ≡ old.calls + of_all tally
  pub made : (kind : MediumFault) → new.made kind ≡ old.made kind + of_kind tally kind
  pub failures : new.failures ≡ old.failures + of_all (refused_by result)
  pub refused : (kind : MediumFault)
      → new.refused kind ≡ old.refused kind + of_kind (refused_by result) kind
  -- what was refused was made
  pub some : (kind : MediumFault) → of_kind (refused_by result) kind ≤ of_kind tally kind

-- A machine was driven: some of its calls were made, and the last may have been refused.
pub record Driven {M S V : Type 0} (state : M → State) (fits : S → ℕ → Type 0)
    (holds : S → List ℕ → M → V → Type 0) (may : V → Image → Type 0) (reads ends : S → ℕ)
    (cost : S → Tally) (Exact : Type 0) (first : S) (began : List ℕ) (m : M)
    (result : Result (Unit {0}) MediumFault) (now : S) (had : List ℕ) (n : M) : Type 0 where
  -- at each moment a cut leaves what it may, and they hold what they held
  pub runs : (view : V) → holds first began m view
      → LeavesOnly (may view) (state m) (state n) × holds now had n view
  pub looks : LooksOnly (λ s. s < reads first) (state m) (state n)
  pub spares : SparesFrom (ends first) (state m) (state n)
  pub rest : Tally
  pub tallied : Tallied Exact (cost first) rest result (state m) (state n)
  pub on : OnOk result (GoesOn fits reads ends first now × IsLeft Exact (cost now) rest)
