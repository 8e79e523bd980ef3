-- The calls of a redo log that keeps its blocks: each one that the log tells may be next by the
-- rules of write ordering.
use Rattle.std.specs.Prelude.{◌≡◌, ℕ, ◌+◌, ◌-◌, ◌^◌, ◌≤◌, ◌<◌, List, true, length, get_or, map, All}
use Rattle.std.specs.Prelude.{drop, slice_index, Some, [], ◌∷◌, ◌++◌, ◌⊎◌, Ok, ◌==◌, if◌then◌else◌}
use Rattle.medium.specs.{Medium.State, declared.medium_call.Call.Call, Performed.Performed}
use Rattle.logical_blocks.specs.Blocks.{Array}
use Rattle.journal.specs.{Formats.layout_of, Record.{Entry, numbers_of, entries_of}}
use Rattle.redo_log.specs.Value.{LogValue, HasRoom, IsBatch, IsAway, IsSentHome, IsRetireStepped}
use Rattle.redo_log.specs.Value.{IsStepped, IsCovered, CanPass, keeping_from, begun, settled}
use Rattle.redo_log.specs.Value.{steps_of, retire_steps_of, of_oldest, behind_oldest}
use Rattle.redo_log.specs.Held.{made_of, turned_of, needed_of, stamps_of, kept_copies, AreSized}
use Rattle.redo_log.specs.{Shown.{written_at, flushed_at}, Told.{IsNextCall, IsFirst, IsSecond}}
use Rattle.redo_log.specs.declared.progress.Progress.{Progress}
use Rattle.redo_log.specs.declared.progress.Progress.TheVariants.{More, Durable}
use Rattle.theorems.specs.Ordering.{Extent, Written, at_first, stamp_of, barrier_of, Begins, Lands}
use Rattle.theorems.specs.Ordering.{MayBeNext, Opens, IsSafe}

-- the durable records that the log has still
abbrev pub waiting_of : LogValue → Written → List (List Entry)
waiting_of log w = drop (log.head - w.first) w.records

-- the log has the records that were written, and their blocks
pub record HasRecords (log : LogValue) (w : Written) : Type 0 where
  pub shape : w.shape ≡ log.shape
  pub small : log.shape.blocks ≤ 2 ^ 31
  pub ring : log.ring ≤ log.shape.slots
  pub keeps : log.keeps ≡ true
  pub least : 1 ≤ w.first
  pub past : w.first ≤ log.head
  pub most : log.head ≤ stamp_of w
  pub next : log.next ≡ stamp_of w + stamps_of log.under_way
  pub waiting : log.waiting ≡ map numbers_of (waiting_of log w)
  pub under_way : log.under_way ≡ numbers_of w.under_way
  pub copies : log.copies ≡ kept_copies true (waiting_of log w) w.under_way
  pub sized : All AreSized (waiting_of log w)
  pub sized_begun : AreSized w.under_way

-- the parts of the record under way are written and flushed, as many as it made calls for
pub record HasParts (log : LogValue) (w : Written) : Type 0 where
  pub some : 0 < log.steps_left → 0 < length w.under_way
  pub few : log.steps_left ≤ steps_of log.shape.format log.under_way
  pub written : (p : ℕ) → p < written_at (barrier_of w) (made_of log) → w.written.parts p ≡ true
  pub flushed : (p : ℕ) → p < flushed_at (barrier_of w) (made_of log) → w.flushed.parts p ≡ true

-- the blocks of the log's oldest record are at home, as many as it made turns for
abbrev pub AreHome : LogValue → Extent → Type 0
AreHome log extent = (i : ℕ) → i < turned_of log → i < length (get_or log.waiting 0 [])
    → log.head ≤ extent.home (slice_index (get_or log.waiting 0 []) i)

pub record HasHome (log : LogValue) (w : Written) : Type 0 where
  pub owed : behind_oldest log ≤ log.retire_steps_left
  pub few : of_oldest log ≤ retire_steps_of (get_or log.waiting 0 [])
  pub head : w.written.head ≡ log.head
  -- no block of a newer record is at home
  pub order : (b : ℕ) → w.written.home b ≤ log.head
  pub home : AreHome log w.written
  -- where the head is what the oldest record needs, all was flushed since
  pub flushed : needed_of log ≡ 1 → AreHome log w.flushed × (w.flushed.head ≡ log.head)
  -- where a record may be begun, its slot is free of the records behind the flushed head
  pub slot : HasRoom log → log.next < w.flushed.head + log.shape.slots

-- the log's calls have written this
pub record Logs (log : LogValue) (w : Written) : Type 0 where
  pub records : HasRecords log w
  pub parts : HasParts log w
  pub home : HasHome log w

-- ---- how a log goes on

-- a record is begun that the log takes
pub record TakesRecord (log next : LogValue) : Type 0 where
  pub numbers : List ℕ
  pub bytes : List ℕ
  pub firsts : List (List ℕ)
  -- the log has room for the record
  pub room : HasRoom log
  pub batch : IsBatch log.shape numbers bytes
  pub stamp : log.next < 2 ^ 63 - 1
  pub next_is : next ≡ begun numbers firsts bytes log

-- the blocks of the record under way, as they are kept
abbrev pub begun_of : LogValue → List Entry
begun_of log = entries_of log.under_way (get_or log.copies (length log.waiting) [])

-- the log tells this call of the record under way, and counts it so
abbrev pub StepsBy : LogValue → Call → List ℕ → Progress → LogValue → Type 0
StepsBy log call bytes progress next = IsStepped progress log next
    × IsNextCall (layout_of log.shape.format) log.shape (log.head + length log.waiting)
    (begun_of log) (made_of log) call bytes

-- It tells this call for a block of its oldest record, in turn or ahead, or for the flush of these,
-- or it writes the head past them ahead of a flush.
abbrev pub TurnsBy : LogValue → Call → List ℕ → LogValue → Type 0
TurnsBy log call bytes next = IsFirst log call bytes
    × ((IsAway log × IsSentHome log next)
    ⊎ (((of_oldest log ≡ 2) ⊎ CanPass log) × IsRetireStepped log next))

-- it tells these two calls, which write the head and flush it
pub record RetiresBy (log : LogValue) (first second : Call) (bytes had with : List ℕ)
    (next : LogValue) : Type 0 where
  pub one : of_oldest log ≡ 1
  pub is_first : IsFirst log first bytes
  pub is_second : IsSecond log had (Some second) with
  pub counted : IsRetireStepped log next

-- ---- each call that the log tells may be next

-- there is no record, and nothing is written
abbrev pub unwritten : Written → Written
unwritten w = record w {
  records = [];
  under_way = [];
  written = at_first w.first;
  flushed = at_first w.first;
}

-- this call may be next, and behind it the log is this one
abbrev pub MayCall : LogValue → Written → Call → List ℕ → Type 0
MayCall next w call bytes = (new : Written) × MayBeNext call bytes w new × Logs next new

-- with its last call the record under way has landed
abbrev pub HasLanded : Progress → Written → Written → Type 0
HasLanded More w new = new ≡ w
HasLanded Durable w new = Lands w new

pub record LogKeepsTheRules : Type 0 where
  pub opens : (w : Written) (count : ℕ) → w.shape.blocks ≤ 2 ^ 31 → 1 ≤ w.first
      → Logs (keeping_from w.shape w.first count) (unwritten w)
  pub begins : {log next : LogValue} {w : Written} → Logs log w → TakesRecord log next
      → (new : Written) × Begins w new × Logs next new
  pub steps : {log next : LogValue} {w : Written} {call : Call} {bytes : List ℕ}
      (progress : Progress) → Logs log w → StepsBy log call bytes progress next
      → (mid new : Written) × MayBeNext call bytes w mid × HasLanded progress mid new
      × Logs next new
  pub turns : {log next : LogValue} {w : Written} {call : Call} {bytes : List ℕ} → Logs log w
      → TurnsBy log call bytes next → MayCall next w call bytes
  -- the flush of a record stands for that of the oldest one, which is no call
  pub settles : {log : LogValue} {w : Written} → Logs log w → IsCovered log
      → Logs (settled log) w
  pub retires : {log next : LogValue} {w : Written} {first second : Call}
      {bytes had with : List ℕ} → Logs log w → RetiresBy log first second bytes had with next
      → (mid : Written) × MayBeNext first bytes w mid × MayCall next mid second with

-- ---- so every order of its steps and turns is safe

-- the record that becomes durable where the log goes on to this one, and those where it goes
-- through all of these
abbrev pub landed_in : LogValue → LogValue → List (List Entry)
landed_in log next =
    if log.steps_left == 1 then (if next.steps_left == 0 then begun_of log ∷ [] else []) else []

abbrev pub all_landed : {M : Type 0} → LogValue → List (LogValue × M) → List (List Entry)
all_landed log [] = []
all_landed log (mid ∷ rest) = landed_in log mid.0 ++ all_landed mid.0 rest

-- not at all, or once after the other, to these
abbrev pub Through : {M : Type 0} → (LogValue → M → LogValue → M → Type 0) → LogValue → M
    → List (LogValue × M) → LogValue → M → Type 0
Through On log m [] next n = (next ≡ log) × (n ≡ m)
Through On log m (mid ∷ rest) next n = On log m mid.0 mid.1 × Through On mid.0 mid.1 rest next n

module _ {M : Type 0} (state : M → State) where
  -- a call that the log tells is made
  pub record Calls (log : LogValue) (m : M) (next : LogValue) (n : M) : Type 0 where
    pub call : Call
    pub bytes : List ℕ
    pub got : List ℕ
    pub told : ((progress : Progress) × StepsBy log call bytes progress next)
        ⊎ TurnsBy log call bytes next
    pub made : Performed call bytes got (Ok tt) (state m) (state n)

  -- or two of them
  pub record Retires (log : LogValue) (m : M) (next : LogValue) (n : M) : Type 0 where
    pub first : Call
    pub second : Call
    pub bytes : List ℕ
    pub had : List ℕ
    pub with : List ℕ
    pub got : List ℕ
    pub mid : M
    pub told : RetiresBy log first second bytes had with next
    pub head : Performed first bytes had (Ok tt) (state m) (state mid)
    pub flush : Performed second with got (Ok tt) (state mid) (state n)

  -- the log goes on by itself, or by calls of its medium
  abbrev pub GoesOn : LogValue → M → LogValue → M → Type 0
  GoesOn log m next n = ((n ≡ m) × (TakesRecord log next ⊎ (IsCovered log × (next ≡ settled log))))
      ⊎ (Calls log m next n ⊎ Retires log m next n)

  abbrev pub GoesThrough : LogValue → M → List (LogValue × M) → LogValue → M → Type 0
  GoesThrough = Through GoesOn

  -- A log with these durable records since this array was at home, and its medium, are safe: now,
  -- and between the two calls that retire a record.
  pub record IsSafeLog (opening : Array) (records : List (List Entry)) (log : LogValue) (m : M)
      : Type 0 where
    pub w : Written
    pub opening_is : w.opening ≡ opening
    pub records_are : w.records ≡ records
    pub logs : Logs log w
    pub safe : IsSafe state w m
    pub between : {next : LogValue} {first second : Call} {bytes had with : List ℕ} {mid : M}
        → RetiresBy log first second bytes had with next
        → Performed first bytes had (Ok tt) (state m) (state mid)
        → (half : Written) × MayBeNext first bytes w half × IsSafe state half mid

  -- so are those that were opened, whatever the log did since
  abbrev pub EveryLogIsSafe : Type 0
  EveryLogIsSafe = (w : Written) (count : ℕ) (log : LogValue) (m n : M)
      (through : List (LogValue × M)) → Opens w (state m)
      → GoesThrough (keeping_from w.shape w.first count) m through log n
      → IsSafeLog w.opening (all_landed (keeping_from w.shape w.first count) through) log n
