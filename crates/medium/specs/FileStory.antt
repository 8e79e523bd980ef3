-- A file: what it holds, and what it was asked.
use Rattle.std.specs.Prelude.{◌≡◌, ◌⊎◌, ℕ, ◌+◌, ◌-◌, ◌<◌, ◌≤◌, Bool, List, [], ◌∷◌, ◌++◌, length}
use Rattle.std.specs.Prelude.{All, max, true}
use Rattle.std.specs.Prelude.{slice_index, get_or, if◌then◌else◌, nat_le, replicate}
use Rattle.std.specs.List.{Contains}
use Rattle.std.specs.Fs.{new_options, with_read, with_write, with_create, with_create_new}
use Rattle.std.specs.declared.fs.options.OpenOptions.{OpenOptions}
use Rattle.medium.specs.declared.file_call.Access.{Access}
use Rattle.medium.specs.declared.file_call.Access.TheVariants.{Look, Change, Make, Replace}
use Rattle.medium.specs.declared.file_call.FileCall.{FileCall}
use Rattle.medium.specs.declared.file_call.FileCall.TheVariants.{Open, Lock, Measure, Resize, Read}
use Rattle.medium.specs.declared.file_call.FileCall.TheVariants.{Write, Sync}
use Rattle.medium.specs.declared.file_call.Answered.{Answered}

-- Answers that no look at a file gives. No call changes these lists. Another crate learns from the
-- answer of a look that a list does not have it, and from nothing else.
pub record Looks : Type 0 where
  -- places with bytes: no look gives this byte of this place
  pub ungiven : List (ℕ × ℕ)
  -- places with counts: no look for so many bytes from this place on is refused or gives none
  pub unmissed : List (ℕ × ℕ)

pub record Told : Type 0 where
  -- the bytes of the path at which it was opened
  pub path : List ℕ
  -- the bytes that were read or written, each run with its place, the latest first
  pub runs : List (ℕ × List ℕ)
  -- how many bytes it has
  pub size : ℕ
  -- what it was asked for, in order, good or refused; first of all it was opened
  pub asked : List FileCall
  -- how many times it refused
  pub refusals : ℕ
  pub looks : Looks

-- it was asked for this, and did it or refused
abbrev pub answered : Bool → FileCall → Told → Told
answered good call t = record t {
  asked = t.asked ++ call ∷ [];
  refusals = if good then t.refusals else t.refusals + 1;
}

-- the byte of a run at this place, or this one where the run does not reach it
abbrev pub byte_in : ℕ × List ℕ → ℕ → ℕ → ℕ
byte_in run place other =
    if nat_le run.0 place then get_or run.1 (place - run.0) other else other

abbrev pub byte_at : List (ℕ × List ℕ) → ℕ → ℕ
byte_at [] place = 0
byte_at (run ∷ runs) place = byte_in run place (byte_at runs place)

-- the byte that was last read or written at this place
abbrev pub holds : Told → ℕ → ℕ
holds t place = byte_at t.runs place

-- what a good call makes of what it holds
abbrev pub after : FileCall → ℕ → List ℕ → Told → Told
after (Open access) length path t = record t { path = path }
after Lock length bytes t = t
after Measure length bytes t = record t { size = length }
after (Resize size) length bytes t =
    record t { size = size; runs = (t.size, replicate (size - t.size) 0) ∷ t.runs }
after (Read at) length bytes t = record t { runs = (at, bytes) ∷ t.runs }
after (Write at) written bytes t =
    record t { runs = (at, bytes) ∷ t.runs; size = max t.size (at + length bytes) }
after Sync length bytes t = t

abbrev pub noted : Answered → List ℕ → Told → Told
noted a bytes t = answered a.good a.call (if a.good then after a.call a.length bytes t else t)

-- a file is opened to be read alone, or to be read and written
abbrev pub to_look : OpenOptions
to_look = with_read new_options true

abbrev pub to_change : OpenOptions
to_change = with_write to_look true

-- how the system is asked to open a file for this
abbrev pub options_of : Access → OpenOptions
options_of Look = to_look
options_of Change = to_change
options_of Make = with_create_new to_change true
options_of Replace = with_create to_change true

-- it was opened at this path for this, and asked for nothing since
pub record IsJustOpened (path : List ℕ) (access : Access) (t : Told) : Type 0 where
  pub path_is : t.path ≡ path
  pub asked : t.asked ≡ Open access ∷ []

-- it was asked for this call and for no other
pub record AsksFor (good : Bool) (call : FileCall) (old new : Told) : Type 0 where
  pub path_stays : new.path ≡ old.path
  pub asked : new.asked ≡ old.asked ++ call ∷ []
  pub refusals : new.refusals ≡ (if good then old.refusals else old.refusals + 1)
  pub looks_stay : new.looks ≡ old.looks

-- it holds what it held
pub record KeepsBytes (old new : Told) : Type 0 where
  pub bytes : (p : ℕ) → holds new p ≡ holds old p
  pub size : new.size ≡ old.size

-- it has `size` bytes: those that it held, and zeros behind them
pub record IsResized (size : ℕ) (old new : Told) : Type 0 where
  pub size_is : new.size ≡ size
  pub kept : (p : ℕ) → p < old.size → p < size → holds new p ≡ holds old p
  pub grown : (p : ℕ) → old.size ≤ p → p < size → holds new p ≡ 0

-- it holds these bytes from this place on, and elsewhere what it held
pub record HasBytes (at : ℕ) (bytes : List ℕ) (old new : Told) : Type 0 where
  pub here : (i : ℕ) → i < length bytes → holds new (at + i) ≡ slice_index bytes i
  pub elsewhere : (p : ℕ) → (p < at) ⊎ (at + length bytes ≤ p) → holds new p ≡ holds old p

-- these bytes were read from this place on
pub record Gives (at : ℕ) (bytes : List ℕ) (old new : Told) : Type 0 where
  pub has : HasBytes at bytes old new
  pub size_stays : new.size ≡ old.size

-- what count bytes from this place on hold may have changed, and nothing else
pub record TakesWithin (at count : ℕ) (old new : Told) : Type 0 where
  pub elsewhere : (p : ℕ) → (p < at) ⊎ (at + count ≤ p) → holds new p ≡ holds old p
  pub grows : old.size ≤ new.size
  pub most : new.size ≤ max old.size (at + count)

-- these bytes were written from this place on
pub record Takes (at : ℕ) (bytes : List ℕ) (old new : Told) : Type 0 where
  pub has : HasBytes at bytes old new
  pub grows : old.size ≤ new.size
  pub reaches : 0 < length bytes → at + length bytes ≤ new.size
  pub most : new.size ≤ max old.size (at + length bytes)

-- a read
abbrev pub IsRead : FileCall → Type 0
IsRead (Open access) = ⊥
IsRead Lock = ⊥
IsRead Measure = ⊥
IsRead (Resize size) = ⊥
IsRead (Read at) = Unit {0}
IsRead (Write at) = ⊥
IsRead Sync = ⊥

-- a write that begins at one of count places from this one on
abbrev pub IsWriteWithin : ℕ → ℕ → FileCall → Type 0
IsWriteWithin from count (Open access) = ⊥
IsWriteWithin from count Lock = ⊥
IsWriteWithin from count Measure = ⊥
IsWriteWithin from count (Resize size) = ⊥
IsWriteWithin from count (Read at) = ⊥
IsWriteWithin from count (Write at) = (from ≤ at) × (at < from + count)
IsWriteWithin from count Sync = ⊥

-- These are the calls that were made, and each has P.
pub record Calls (P : FileCall → Type 0) (old new : Told) : Type 0 where
  pub path_stays : new.path ≡ old.path
  pub calls : List FileCall
  pub asked : new.asked ≡ old.asked ++ calls
  pub each : All P calls
  pub looks_stay : new.looks ≡ old.looks

-- the file holds these bytes, from the first on
abbrev pub HoldsFirst : List ℕ → Told → Type 0
HoldsFirst bytes t = (p : ℕ) → p < length bytes → holds t p ≡ slice_index bytes p

-- The file was locked, and then measured: it has `bytes` bytes.
pub record IsMeasured (bytes : ℕ) (old new : Told) : Type 0 where
  pub path_stays : new.path ≡ old.path
  pub asked : new.asked ≡ old.asked ++ Lock ∷ Measure ∷ []
  pub size : new.size ≡ bytes
  pub looks_stay : new.looks ≡ old.looks

-- The file at this path was opened to be changed, locked, measured, and then only read: these are
-- its bytes.
pub record IsReadWhole (path bytes : List ℕ) (t : Told) : Type 0 where
  pub path_is : t.path ≡ path
  pub reads : List FileCall
  pub asked : t.asked ≡ Open Change ∷ Lock ∷ Measure ∷ reads
  pub only : All IsRead reads
  pub size : t.size ≡ length bytes
  pub bytes_are : HoldsFirst bytes t

-- The file at this path was opened to be replaced, locked, emptied, and then only written: these
-- are its bytes.
pub record IsMadeOf (path bytes : List ℕ) (t : Told) : Type 0 where
  pub path_is : t.path ≡ path
  pub writes : List FileCall
  pub asked : t.asked ≡ Open Replace ∷ Lock ∷ Resize 0 ∷ writes
  pub only : All (IsWriteWithin 0 (length bytes)) writes
  pub size : t.size ≡ length bytes
  pub bytes_are : HoldsFirst bytes t

-- By writes alone, these bytes were put there, and no other byte was touched.
pub record IsPut (at : ℕ) (bytes : List ℕ) (old new : Told) : Type 0 where
  pub calls : Calls (IsWriteWithin at (length bytes)) old new
  pub takes : Takes at bytes old new

-- By writes alone; what count bytes hold may have changed, and no other byte was touched.
pub record MayPut (at count : ℕ) (old new : Told) : Type 0 where
  pub calls : Calls (IsWriteWithin at count) old new
  pub takes : TakesWithin at count old new

-- a look gave this byte of this place
abbrev pub IsGiven : Looks → ℕ → ℕ → Type 0
IsGiven looks place byte = ¬ Contains looks.ungiven (place, byte)

-- a look for so many bytes from this place on was refused or gave none
abbrev pub IsUnanswered : Looks → ℕ → ℕ → Type 0
IsUnanswered looks place count = ¬ Contains looks.unmissed (place, count)

-- each of these bytes, from this place on, is one that a look gave there
abbrev pub AreGiven : Looks → ℕ → List ℕ → Type 0
AreGiven looks at bytes = (i : ℕ) → i < length bytes → IsGiven looks (at + i) (slice_index bytes i)

-- a look for the last of count bytes from this place on was refused or gave none
pub record IsMissed (looks : Looks) (at count : ℕ) : Type 0 where
  pub place : ℕ
  pub from : at ≤ place
  pub inside : place < at + count
  pub missed : IsUnanswered looks place (at + count - place)
