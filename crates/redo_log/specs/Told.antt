-- The calls that a log tells: the next one of the record under way, and those of the next turn of
-- its oldest record; and that these were made.
use Rattle.std.specs.Prelude.{◌≡◌, ℕ, ◌+◌, ◌<◌, ◌≤◌, ◌⊎◌, List, Bool, true, false, Option, Some}
use Rattle.std.specs.Prelude.{None, Result, is_ok, [], length, slice_index, get_or}
use Rattle.medium.specs.{Medium.State, Performed.{IsWithin, ReadsBefore, Performed}}
use Rattle.medium.specs.declared.{fault.MediumFault.MediumFault, medium_call.Call.Call}
use Rattle.medium.specs.declared.medium_call.Call.TheVariants.{Read, Write, Flush}
use Rattle.journal.specs.Places.{first_data_of, first_home, sectors_of, Shape}
use Rattle.journal.specs.{Layout.{slot_at, Layout, part_at}, Formats.layout_of, Sectors.IsHead}
use Rattle.journal.specs.Record.{Entry, begun_with}
use Rattle.redo_log.specs.Value.{LogValue, of_oldest, IsAway, CanPass, first_kept, copy_kept}
use Rattle.redo_log.specs.{Held.{made_of, turned_of}, Shown.written_at}

-- a flush comes next: those before the barrier are written, or all
abbrev pub IsFlushDue : Layout → ℕ → ℕ → Type 0
IsFlushDue L count made = ((0 < L.before_barrier count) × (made ≡ L.before_barrier count))
    ⊎ (L.parts count ≤ written_at (L.before_barrier count) made)

-- The next call of a record of which `made` calls are made: a flush where one is due, or the next
-- part, whose bytes are these.
abbrev pub IsNextCall : Layout → Shape → ℕ → List Entry → ℕ → Call → List ℕ → Type 0
IsNextCall L shape stamp entries made call bytes =
    (IsFlushDue L (length entries) made → call ≡ Flush)
    × (¬ IsFlushDue L (length entries) made
    → let written = written_at (L.before_barrier (length entries)) made in
    (call ≡ Write (part_at L shape stamp (length entries) written))
    × (bytes ≡ L.part stamp entries written))

-- That call is next.
abbrev pub IsNext : List Entry → LogValue → Call → List ℕ → Type 0
IsNext entries log = IsNextCall (layout_of log.shape.format) log.shape
    (log.head + length log.waiting) entries (made_of log)

-- ---- a turn, call by call

-- where the next block of the oldest record stands in the log, and where it goes
abbrev pub copy_of : LogValue → ℕ
copy_of log = slot_at (layout_of log.shape.format) log.shape log.head
    + first_data_of log.shape.format + turned_of log

abbrev pub home_of : LogValue → ℕ
home_of log = first_home log.shape + slice_index (get_or log.waiting 0 []) (turned_of log)

-- what goes there, where its copy has these bytes
abbrev pub brought : LogValue → List ℕ → List ℕ
brought log copy = begun_with (first_kept log.firsts 0 (turned_of log)) copy

-- the bytes of that block, where they are kept
abbrev pub kept_of : LogValue → List ℕ
kept_of log = copy_kept log.copies 0 (turned_of log)

-- One call makes the next turn: its blocks are flushed at home, or a block goes home that is kept.
abbrev pub IsOneCall : LogValue → Type 0
IsOneCall log = (of_oldest log ≡ 2) ⊎ (IsAway log × (log.keeps ≡ true))

-- The first call of the next turn, with these bytes in the lent sector: a block is read, or written
-- home where it is kept, its blocks are flushed at home, or the head is written. It reads nothing
-- at home.
pub record IsFirst (log : LogValue) (call : Call) (bytes : List ℕ) : Type 0 where
  pub inside : IsWithin (sectors_of log.shape) call
  pub reads : ReadsBefore (first_home log.shape) call
  pub home : IsAway log → log.keeps ≡ false → call ≡ Read (copy_of log)
  pub kept : IsAway log → log.keeps ≡ true
      → (call ≡ Write (home_of log)) × (bytes ≡ kept_of log)
  pub flush : of_oldest log ≡ 2 → call ≡ Flush
  pub head : of_oldest log ≡ 1 → (call ≡ Write 1) × IsHead (log.head + 1) bytes

-- The call behind it, if there is one: the first one left the one list in the lent sector, and the
-- other one goes with this.
pub record IsSecond (log : LogValue) (had : List ℕ) (call : Option Call) (bytes : List ℕ)
    : Type 0 where
  pub home : IsAway log → log.keeps ≡ false
      → (call ≡ Some (Write (home_of log))) × (bytes ≡ brought log had)
  pub one : IsOneCall log → call ≡ None
  pub head : of_oldest log ≡ 1 → call ≡ Some Flush

-- ---- the calls that were made

-- A call that was told so was made, or it was refused, and no other was made.
pub record CallMade (Told : Call → List ℕ → Type 0) (made : Bool) (old new : State) : Type 0 where
  pub call : Call
  pub bytes : List ℕ
  pub after : List ℕ
  pub answer : Result (Unit {0}) MediumFault
  pub told : Told call bytes
  pub performed : Performed call bytes after answer old new
  pub answered : is_ok answer ≡ made

-- The first call of a turn was made, or it was refused, and no other was made. Where it was made,
-- it is the turn, or it writes the head ahead of a flush.
pub record FirstMade (log : LogValue) (made : Bool) (old new : State) : Type 0 where
  pub call : CallMade (IsFirst log) made old new
  pub alone : made ≡ true → IsOneCall log ⊎ CanPass log

-- It was made, and behind it the second one was made, or it was refused. No other was made.
pub record BothMade {M : Type 0} (state : M → State) (log : LogValue) (made : Bool) (m n : M)
    : Type 0 where
  pub mid : M
  pub first : CallMade (IsFirst log) true (state m) (state mid)
  pub second : CallMade (λ call bytes. IsSecond log first.after (Some call) bytes) made (state mid)
      (state n)

-- the calls of the next turn were made, each once and in order, or the last of them was refused
pub record TurnMade {M : Type 0} (state : M → State) (log : LogValue) (made : Bool) (m n : M)
    : Type 0 where
  pub owed : 0 < of_oldest log
  pub calls : FirstMade log made (state m) (state n) ⊎ BothMade state log made m n
