-- The premises of the laws are met by what ships: the clauses of public calls give each of them.
use Rattle.std.specs.Prelude.{◌≡◌, ◌⊎◌, ℕ, ◌<◌, List, [], true, false, Result, Ok, replicate}
use Rattle.std.specs.Prelude.{Bool}
use Rattle.medium.specs.{Medium.State, Moments.EachCut, Performed.Performed}
use Rattle.medium.specs.declared.medium_call.Call.{Call}
use Rattle.logical_blocks.specs.Blocks.{Array}
use Rattle.journal.specs.{Places.Shape, Record.entries_of, Standing.IsOurs}
use Rattle.redo_log.specs.{Value.{LogValue, HasRoom, IsBatch}, Steps.{BeginsRecord, MakesStep}}
use Rattle.redo_log.specs.Steps.{MakesRetireStep, MakesHomeAhead, MakesHeadAhead}
use Rattle.redo_log.specs.declared.{fault.LogFault.LogFault, progress.Progress.Progress}
use Rattle.recovery.specs.{Calls.IsFormatted, Recovered.{IsFresh, RecoveryMoments}}
use Rattle.theorems.specs.Ordering.{Written, at_first, MayBeNext, Opens, Calls}
use Rattle.theorems.specs.Logging.{Logs, TakesRecord, GoesOn, begun_of}
use Rattle.theorems.specs.{Making.{Steps, MakesCalls}, Room.{HasSlots, MayWrite}}

-- a log of which nothing is written yet, over this array
abbrev pub opening_of : Shape → Array → ℕ → Written
opening_of shape array first = record {
  shape = shape;
  opening = array;
  first = first;
  records = [];
  under_way = [];
  written = at_first first;
  flushed = at_first first;
}

module _ {M : Type 0} (state : M → State) (Follows : M → M → Type 0) where
  -- a log opens over the image that `format` or `format2` made, or that `recover` left
  pub record OpeningWitness : Type 0 where
    pub formatted : (shape : Shape) (m : M) → IsFormatted shape (state m)
        → Opens (opening_of shape (λ b. replicate 512 0) 1) (state m)
    pub recovered : (shape : Shape) (array : Array) (next : ℕ) (old new : M)
        → IsOurs (state old).size shape (state old).content array next
        → RecoveryMoments (state old) (state new) → EachCut (IsFresh shape array next) (state new)
        → Opens (opening_of shape array next) (state new)

  -- what the calls of a log do is what the laws suppose
  pub record LogWitness : Type 0 where
    -- `begin` takes a record, whose blocks are then those under way
    pub takes : {log next : LogValue} {numbers bytes : List ℕ} → HasRoom log
        → IsBatch log.shape numbers bytes → BeginsRecord numbers bytes (Ok tt) log next
        → TakesRecord log next
        × ((w : Written) → Logs log w → begun_of next ≡ entries_of numbers bytes)
    -- `step` makes a step of these, good or refused
    pub steps : {log next : LogValue} {m n : M} (numbers bytes : List ℕ)
        (result : Result Progress LogFault) → 0 < log.steps_left
        → begun_of log ≡ entries_of numbers bytes
        → MakesStep state Follows (entries_of numbers bytes) result log next m n
        → Steps state Follows log m next n
    -- `retire_step`, `home_ahead` and `head_ahead` make turns
    pub turns : {log next : LogValue} {m n : M} (result : Result (Unit {0}) LogFault)
        → MakesRetireStep state Follows result log next m n
        ⊎ (MakesHomeAhead state Follows result log next m n
        ⊎ MakesHeadAhead state Follows result log next m n)
        → MakesCalls state Follows log m next n
    -- A live log that keeps its blocks goes on by them as it tells, or no call is made.
    pub goes_on : {log next : LogValue} {m n : M} → log.keeps ≡ true
        → MakesCalls state Follows log m next n → next.dead ≡ false
        → GoesOn state log m next n ⊎ ((next ≡ log) × (n ≡ m))
    -- writing back begins a record where three slots are free
    pub writes : {log : LogValue} (ahead : Bool) → HasRoom log → HasSlots 3 log
        → MayWrite ahead log
    -- `perform` makes a call that may be next
    pub performs : {w new : Written} {m n : M} {bytes got : List ℕ} (call : Call)
        → MayBeNext call bytes w new → Performed call bytes got (Ok tt) (state m) (state n)
        → Calls state w m new n
