-- Write ordering: which call of a medium may be next over a log, whatever plan chooses it. Every
-- order of calls that keeps these rules is safe.
use Rattle.std.specs.Prelude.{◌≡◌, ◌⊎◌, ℕ, ◌+◌, ◌-◌, ◌≤◌, ◌<◌, Bool, true, false, List, [], ◌∷◌}
use Rattle.std.specs.Prelude.{◌++◌, length, get_or, Contains, if◌then◌else◌, ◌==◌, Result, Ok}
use Rattle.medium.specs.{Medium.{State, Image}, Moments.{EachCut, LeavesOnly}, Performed.Performed}
use Rattle.medium.specs.declared.{fault.MediumFault.MediumFault, medium_call.Call.Call}
use Rattle.medium.specs.declared.medium_call.Call.TheVariants.{Read, Write, Flush}
use Rattle.logical_blocks.specs.Blocks.{Array}
use Rattle.journal.specs.{Places.{Shape, sectors_of}, Sectors.IsHead, Formats.layout_of}
use Rattle.journal.specs.{Record.{Entry, with_blocks, with_records}, Standing.IsOurs}
use Rattle.journal.specs.Layout.{Layout, part_at, IsRecordOf, RestsIn}

-- how far the sectors of a log and of home are written
pub record Extent : Type 0 where
  -- the head
  pub head : ℕ
  -- which parts of the record under way
  pub parts : ℕ → Bool
  -- of each block the stamp of the record from which it went home last; 0 where from none
  pub home : ℕ → ℕ

-- what was written since a log held no record
pub record Written : Type 0 where
  pub shape : Shape
  -- the array that was at home then, and the stamp of the first record
  pub opening : Array
  pub first : ℕ
  -- the records that have become durable since, the oldest first
  pub records : List (List Entry)
  -- the record under way; none where none is
  pub under_way : List Entry
  -- how far all is written, and how far it is behind a flush: a flush was made after the write
  pub written : Extent
  pub flushed : Extent

-- nothing is written yet
abbrev pub at_first : ℕ → Extent
at_first first = record { head = first; parts = λ p. false; home = λ b. 0 }

-- how its records lie
abbrev pub layout : Written → Layout
layout w = layout_of w.shape.format

-- how many parts the record under way has, and how many of them are flushed before the others
abbrev pub parts_of : Written → ℕ
parts_of w = (layout w).parts (length w.under_way)

abbrev pub barrier_of : Written → ℕ
barrier_of w = (layout w).before_barrier (length w.under_way)

-- the stamp of the record under way, or of the next one
abbrev pub stamp_of : Written → ℕ
stamp_of w = w.first + length w.records

-- the blocks of the durable record with this stamp
abbrev pub record_at : Written → ℕ → List Entry
record_at w stamp = get_or w.records (stamp - w.first) []

-- the array that the durable records make
abbrev pub array_of : Written → Array
array_of w = with_records w.records w.opening

-- ---- the rules

-- none of the parts is written
abbrev pub without_parts : Extent → Extent
without_parts extent = record extent { parts = λ p. false }

-- A record is begun where none is under way, in a slot whose last record a head has passed that is
-- behind a flush.
pub record Begins (w new : Written) : Type 0 where
  pub none : w.under_way ≡ []
  pub entries : List Entry
  pub fit : IsRecordOf (layout w) w.shape.blocks (stamp_of w) entries
  pub slot : stamp_of w < w.flushed.head + w.shape.slots
  pub new_is : new ≡ record w {
    under_way = entries;
    written = without_parts w.written;
    flushed = without_parts w.flushed;
  }

-- the record under way is durable once all its parts are behind a flush
pub record Lands (w new : Written) : Type 0 where
  pub some : 0 < length w.under_way
  pub whole : (p : ℕ) → p < parts_of w → w.flushed.parts p ≡ true
  pub new_is : new ≡ record w { records = w.records ++ w.under_way ∷ []; under_way = [] }

-- the same, with this part of the record under way
abbrev pub with_part : ℕ → Extent → Extent
with_part part extent =
    record extent { parts = λ p. if p == part then true else extent.parts p }

-- A part of the record under way may be written; in format 1 the commit only where the other parts
-- are behind a flush.
pub record WritesPart (w : Written) (place : ℕ) (bytes : List ℕ) (new : Written) : Type 0 where
  pub some : 0 < length w.under_way
  pub part : ℕ
  pub inside : part < parts_of w
  pub commit : barrier_of w ≤ part → (p : ℕ) → p < barrier_of w → w.flushed.parts p ≡ true
  pub place_is : place ≡ part_at (layout w) w.shape (stamp_of w) (length w.under_way) part
  pub bytes_are : bytes ≡ (layout w).part (stamp_of w) w.under_way part
  pub new_is : new ≡ record w { written = with_part part w.written }

-- the same, with this block at home from the record with this stamp
abbrev pub with_home : ℕ → ℕ → Extent → Extent
with_home block stamp extent =
    record extent { home = λ b. if b == block then stamp else extent.home b }

-- A block may go home from a durable record, where it did not go home from a newer one.
pub record WritesHome (w : Written) (place : ℕ) (bytes : List ℕ) (new : Written) : Type 0 where
  pub stamp : ℕ
  pub least : w.first ≤ stamp
  pub durable : stamp < stamp_of w
  pub entry : Entry
  pub listed : Contains (record_at w stamp) entry
  pub order : w.written.home entry.0 ≤ stamp
  pub place_is : place ≡ w.shape.home + entry.0
  pub bytes_are : bytes ≡ entry.1
  pub new_is : new ≡ record w { written = with_home entry.0 stamp w.written }

-- each block of this record is at home, or one of a newer record, behind a flush
abbrev pub IsFlushedHome : Written → ℕ → Type 0
IsFlushedHome w stamp = (e : Entry) → Contains (record_at w stamp) e → stamp ≤ w.flushed.home e.0

-- The head may go on, past records whose blocks are at home.
pub record WritesHead (w : Written) (place : ℕ) (bytes : List ℕ) (new : Written) : Type 0 where
  pub head : ℕ
  pub rises : w.written.head ≤ head
  pub most : head ≤ stamp_of w
  pub passed : (stamp : ℕ) → w.written.head ≤ stamp → stamp < head → IsFlushedHome w stamp
  pub place_is : place ≡ 1
  pub bytes_are : IsHead head bytes
  pub new_is : new ≡ record w { written = record w.written { head = head } }

-- This call may be next, with these bytes where it is a write. A read and a flush always may.
abbrev pub MayBeNext : Call → List ℕ → Written → Written → Type 0
MayBeNext (Read place) bytes w new = new ≡ w
MayBeNext (Write place) bytes w new =
    WritesPart w place bytes new ⊎ (WritesHome w place bytes new ⊎ WritesHead w place bytes new)
MayBeNext Flush bytes w new = new ≡ record w { flushed = w.written }

-- ---- what they promise

-- The image is ours, and stands for the array of the durable records, or with the record under way,
-- whole.
abbrev pub MayLeave : ℕ → Written → Image → Type 0
MayLeave size w image = IsOurs size w.shape image (array_of w) (stamp_of w + 1)
    ⊎ ((0 < length w.under_way)
    × IsOurs size w.shape image (with_blocks w.under_way (array_of w)) (stamp_of w + 2))

-- a log is opened: each image that a cut may leave has this array at home, and no record
pub record Opens (w : Written) (m : State) : Type 0 where
  pub is : w ≡ record w {
    records = [];
    under_way = [];
    written = at_first w.first;
    flushed = at_first w.first;
  }
  -- the medium has each sector of the image
  pub fits : sectors_of w.shape ≤ m.size
  pub rests : EachCut (λ image. RestsIn (layout w) w.shape image w.first [] w.opening) m

module _ {M : Type 0} (state : M → State) where
  -- a call that may be next is made, whatever a read gives
  pub record Calls (w : Written) (m : M) (new : Written) (n : M) : Type 0 where
    pub call : Call
    pub bytes : List ℕ
    pub got : List ℕ
    pub may : MayBeNext call bytes w new
    pub made : Performed call bytes got (Ok tt) (state m) (state n)

  -- one step: a record is begun or has landed, which is no call, or a call is made
  abbrev pub IsStep : Written → M → Written → M → Type 0
  IsStep w m new n = ((n ≡ m) × (Begins w new ⊎ Lands w new)) ⊎ Calls w m new n

  -- no step, or one after another, to these
  abbrev pub AreSteps : Written → M → List (Written × M) → Written → M → Type 0
  AreSteps w m [] new n = (new ≡ w) × (n ≡ m)
  AreSteps w m (mid ∷ rest) new n = IsStep w m mid.0 mid.1 × AreSteps mid.0 mid.1 rest new n

  -- A cut leaves what it may, now, and at each moment of a call that may be next, whether it is
  -- made or refused. Behind a refused one there is no next.
  pub record IsSafe (w : Written) (m : M) : Type 0 where
    pub rests : EachCut (MayLeave (state m).size w) (state m)
    pub calls : (call : Call) (bytes got : List ℕ) (result : Result (Unit {0}) MediumFault)
        (new : Written) (n : M) → MayBeNext call bytes w new
        → Performed call bytes got result (state m) (state n)
        → LeavesOnly (MayLeave (state m).size w) (state m) (state n)

  -- every order of calls that keeps the rules is safe
  abbrev pub EveryOrderIsSafe : Type 0
  EveryOrderIsSafe = (w new : Written) (m n : M) (steps : List (Written × M))
      → Opens w (state m) → AreSteps w m steps new n → IsSafe new n
