-- What a start and a medium hold between two calls, which calls are left of it, and what is so at
-- its end.
use Rattle.std.specs.Prelude.{◌≡◌, ◌⊎◌, ℕ, ◌+◌, ◌*◌, ◌<◌, ◌≤◌, ◌^◌, List, [], length, Result, IfOk}
use Rattle.std.specs.Prelude.{IfErr, OnOk, false}
use Rattle.medium.specs.{Tally.{Tally, none}, Medium.State, Moments.EachCut}
use Rattle.medium.specs.declared.fault.MediumFault.{MediumFault}
use Rattle.logical_blocks.specs.Blocks.{Array}
use Rattle.journal.specs.declared.log_format.LogFormat.{TheVariants.{One, Two}, LogFormat}
use Rattle.journal.specs.{declared.super_sector.Super.Super, Places.{Shape, sectors_of, limit_of}}
use Rattle.journal.specs.{Formats.shape_of, Naming.IsUnread, Reading.record_reads_of}
use Rattle.journal.specs.{Sectors.{IsSuper, IsHead}, Standing.IsOurs}
use Rattle.recovery.specs.Causes.{IsSuperCause, HasFewSlots, IsRefusalBy, WritesNothing}
use Rattle.recovery.specs.{Causes.{IsInspected, OnlyLooks, IsLookRefusal}, Copying.Copying}
use Rattle.recovery.specs.Copying.{CanCopy, copies_left, copy_kind, IsCopyStep}
use Rattle.recovery.specs.{Surveying.{surveys_left, IsSurveyStep}, Recovered.LeavesAtLeast}
use Rattle.recovery.specs.Recovered.{IsRecoveredFrom, IsFresh, HasNoneWaiting, FitsRecovered}
use Rattle.recovery.specs.{Calls.most_reads_of, declared.surveying.Surveying.Surveying}
use Rattle.recovery.specs.declared.{found.Found.Found, inspection.Inspection.Inspection}
use Rattle.recovery.specs.declared.recovered.Recovered.{Recovered}
use Rattle.recovery.specs.declared.{start_fault.StartFault.StartFault, copy_step.CopyStep.CopyStep}
use Rattle.recovery.specs.declared.start_point.StartPoint.{StartPoint}
pub use Rattle.recovery.specs.Stages.{StartStage, stage_at}
use Rattle.medium.specs.declared.fault.MediumFault.TheVariants as medium
use Rattle.recovery.specs.declared.start_fault.StartFault.TheVariants as fault
use Rattle.recovery.specs.declared.start_point.StartPoint.TheVariants as point
use Rattle.recovery.specs.Stages as stage

-- ---- what is so at the end

-- A start that wants at least this many slots in a log of format 1 came to its end, good or
-- refused: all that a recovery promises.
pub record EndsStart (least : ℕ) (old new : State) (result : Result Recovered StartFault)
    : Type 0 where
  pub ok : IfOk result (λ answer. IsRecoveredFrom old new answer
      × (¬ HasFewSlots least old.size old.content))
  pub fresh : (shape : Shape) (array : Array) (next : ℕ)
      → IsOurs old.size shape old.content array next
      → OnOk result (EachCut (IsFresh shape array next) new)
  -- and no record waits then
  pub clean : (shape : Shape) (array : Array) (next : ℕ)
      → IsOurs old.size shape old.content array next
      → OnOk result (HasNoneWaiting shape new.content)
  pub err : IfErr result (IsRefusalBy least WritesNothing old new)
  pub leaves : LeavesAtLeast least old new

-- ---- which calls are left

-- a call is left
abbrev pub IsStarting : StartStage → Type 0
IsStarting (stage.Started answer) = ⊥
IsStarting (stage.Refused fault) = ⊥
IsStarting at = Unit {0}

-- some calls, and others
abbrev pub both : Tally → Tally → Tally
both some others = record {
  reads = some.reads + others.reads;
  writes = some.writes + others.writes;
  flushes = some.flushes + others.flushes;
}

-- those that move the head: a flush, a write and a flush
abbrev pub head_calls : Tally
head_calls = record { reads = 0; writes = 1; flushes = 2 }

-- those at most that copy the records of so many slots home and then move the head
abbrev pub home_calls : LogFormat → ℕ → Tally
home_calls format slots = record {
  reads = (record_reads_of format + limit_of format) * slots;
  writes = limit_of format * slots + 1;
  flushes = 2;
}

-- so many reads, and then those at most that survey so many slots and bring their records home
abbrev pub all_calls : ℕ → LogFormat → ℕ → Tally
all_calls first format slots = record {
  reads = first + (most_reads_of format + record_reads_of format + limit_of format) * slots;
  writes = limit_of format * slots + 1;
  flushes = 2;
}

-- The calls that are left at most: before the super is read, of any image; before the records are
-- surveyed, by the format and the slots. None is left at the end.
abbrev pub start_left : StartStage → Tally
start_left stage.FlushFirst = record (all_calls 2 Two 64) { flushes = 3 }
start_left stage.ReadSuper = all_calls 2 Two 64
start_left (stage.ReadHead sizes) = all_calls 1 sizes.format sizes.slots
start_left (stage.Survey head survey) =
    both (surveys_left survey.reader survey.left survey.place)
    (home_calls survey.reader.sizes.format survey.reader.sizes.slots)
start_left (stage.Copy found copying) = both (copies_left copying.reader copying.step) head_calls
start_left (stage.FlushCopies found) = head_calls
start_left (stage.WriteHead found) = record { reads = 0; writes = 1; flushes = 1 }
start_left (stage.FlushHead found) = record { reads = 0; writes = 0; flushes = 1 }
start_left at = none

-- ---- what the machine holds, whatever it read, on a medium of so many sectors

-- these are the sizes of an image that fits, and a stamp is left behind its records
pub record FitsFound (sectors : ℕ) (found : Found) : Type 0 where
  pub fits : sectors_of (shape_of found.sizes) ≤ sectors
  pub stamp_left : found.head + found.count + 1 < 2 ^ 63

-- records are left to be surveyed
pub record FitsSurvey (sectors head : ℕ) (survey : Surveying) : Type 0 where
  pub fits : sectors_of (shape_of survey.reader.sizes) ≤ sectors
  pub head_most : head < 2 ^ 63
  pub due : 0 < survey.left

-- records are left to be copied, and none to be surveyed
pub record FitsCopying (sectors : ℕ) (found : Found) (survey : Surveying) (step : CopyStep)
    : Type 0 where
  pub fits : FitsFound sectors found
  pub sizes_are : survey.reader.sizes ≡ found.sizes
  pub due : 0 < step.left
  pub can : CanCopy survey.reader step
  pub over : survey.left ≡ 0

pub record CanStart (sectors : ℕ) (at : StartPoint) (survey : Surveying) (step : CopyStep)
    : Type 0 where
  pub super : at ≡ point.ReadSuper → 0 < sectors
  pub head : (sizes : Super) → at ≡ point.ReadHead sizes → sectors_of (shape_of sizes) ≤ sectors
  pub survey_goes : (head : ℕ) → at ≡ point.Survey head → FitsSurvey sectors head survey
  pub copy : (found : Found) → at ≡ point.Copy found → FitsCopying sectors found survey step
  pub flush : (found : Found) → at ≡ point.FlushCopies found → FitsFound sectors found
  pub move : (found : Found) → at ≡ point.WriteHead found → FitsFound sectors found
  pub last : (found : Found) → at ≡ point.FlushHead found → FitsFound sectors found
  pub started : (answer : Recovered) → at ≡ point.Started answer → FitsRecovered sectors answer

-- ---- one call on

-- the survey begins at this stamp
pub record IsNewSurvey (sizes : Super) (head : ℕ) (survey : Surveying) : Type 0 where
  pub sizes_are : survey.reader.sizes ≡ sizes
  pub stamp_is : survey.reader.stamp ≡ head
  pub unread : IsUnread (shape_of sizes) head survey.reader.stage survey.reader.read
  pub left_is : survey.left ≡ sizes.slots
  pub place_is : survey.place ≡ 0
  pub none : survey.waiting.items ≡ []

-- the copying begins at the first record
pub record IsNewCopying (found : Found) (copying : Copying) : Type 0 where
  pub sizes_are : copying.reader.sizes ≡ found.sizes
  pub stamp_is : copying.reader.stamp ≡ found.head
  pub unread : IsUnread (shape_of found.sizes) found.head copying.reader.stage copying.reader.read
  pub left_is : copying.step.left ≡ found.count
  pub i_is : copying.step.i ≡ 0
  pub no_bytes : copying.step.has_bytes ≡ false

-- there are sectors, and so the super is read, or there is none
abbrev pub IsReadFirst : ℕ → StartStage → Type 0
IsReadFirst sectors next =
    ((sectors ≡ 0) × (next ≡ stage.Refused fault.BadSize))
    ⊎ ((0 < sectors) × (next ≡ stage.ReadSuper))

-- the super was read: its sizes fit, or this is wrong with it
abbrev pub FindsSuper : ℕ → List ℕ → StartStage → Type 0
FindsSuper sectors got (stage.ReadHead sizes) =
    IsSuper (shape_of sizes) got × (sectors_of (shape_of sizes) ≤ sectors)
FindsSuper sectors got (stage.Refused fault) = IsSuperCause sectors got fault
FindsSuper sectors got next = ⊥

-- the log is of format 1, and has fewer slots than these
abbrev pub IsSmall : ℕ → Super → Type 0
IsSmall least sizes = (sizes.format ≡ One) × (sizes.slots < least)

-- the head was read: the survey begins, unless there is none, or the log has too few slots
abbrev pub FindsHead : ℕ → Super → List ℕ → StartStage → Type 0
FindsHead least sizes got (stage.Survey head survey) =
    IsHead head got × (¬ IsSmall least sizes) × IsNewSurvey sizes head survey
FindsHead least sizes got (stage.Refused fault.BadHead) = (stamp : ℕ) → ¬ IsHead stamp got
FindsHead least sizes got (stage.Refused fault.LogTooSmall) =
    (head : ℕ) × IsHead head got × IsSmall least sizes
FindsHead least sizes got next = ⊥

-- so far the records are copied
abbrev pub IsCopiedOn : Found → Copying → StartStage → Type 0
IsCopiedOn found copying next =
    ((0 < copying.step.left) × (next ≡ stage.Copy found copying))
    ⊎ ((copying.step.left ≡ 0) × (next ≡ stage.FlushCopies found))

-- this was found: it is copied, where a stamp is left and a record is there
abbrev pub IsFoundOn : Found → StartStage → Type 0
IsFoundOn found next =
    ((2 ^ 63 ≤ found.head + found.count + 1) × (next ≡ stage.Refused fault.StampsUsedUp))
    ⊎ ((found.head + found.count + 1 < 2 ^ 63) × (copying : Copying) × IsNewCopying found copying
    × IsCopiedOn found copying next)

-- what a survey has found at its end
abbrev pub found_by : ℕ → Surveying → Found
found_by head survey = record {
  sizes = survey.reader.sizes;
  head = head;
  count = length survey.waiting.items;
}

-- so far the records are surveyed
abbrev pub IsSurveyedOn : ℕ → Surveying → StartStage → Type 0
IsSurveyedOn head survey next =
    ((0 < survey.left) × (next ≡ stage.Survey head survey))
    ⊎ ((survey.left ≡ 0) × IsFoundOn (found_by head survey) next)

-- what recovery answers of what it found
abbrev pub answer_of : Found → Recovered
answer_of found = record { sizes = found.sizes; next = found.head + found.count + 1 }

-- the next call was made, which left these bytes in the lent sector
abbrev pub IsStartStep : ℕ → ℕ → StartStage → List ℕ → StartStage → Type 0
IsStartStep sectors least stage.FlushFirst got next = IsReadFirst sectors next
IsStartStep sectors least stage.ReadSuper got next = FindsSuper sectors got next
IsStartStep sectors least (stage.ReadHead sizes) got next = FindsHead least sizes got next
IsStartStep sectors least (stage.Survey head survey) got next = (after : Surveying)
    × IsSurveyStep survey.reader survey.left survey.place survey.waiting.items got after.reader
    after.left after.place after.waiting.items × IsSurveyedOn head after next
IsStartStep sectors least (stage.Copy found copying) got next = (after : Copying)
    × IsCopyStep copying.reader copying.step got after.reader after.step
    × IsCopiedOn found after next
IsStartStep sectors least (stage.FlushCopies found) got next = next ≡ stage.WriteHead found
IsStartStep sectors least (stage.WriteHead found) got next = next ≡ stage.FlushHead found
IsStartStep sectors least (stage.FlushHead found) got next = next ≡ stage.Started (answer_of found)
IsStartStep sectors least at got next = ⊥

-- the kind of the next call
abbrev pub start_kind : StartStage → MediumFault
start_kind stage.ReadSuper = medium.Read
start_kind (stage.ReadHead sizes) = medium.Read
start_kind (stage.Survey head survey) = medium.Read
start_kind (stage.Copy found copying) = copy_kind copying.reader.stage copying.step.has_bytes
start_kind (stage.WriteHead found) = medium.Write
start_kind at = medium.Flush

-- ---- the reading half alone

-- what it holds, whatever it read
pub record CanLook (sectors : ℕ) (at : StartPoint) (survey : Surveying) : Type 0 where
  pub super : at ≡ point.ReadSuper → 0 < sectors
  pub head : (sizes : Super) → at ≡ point.ReadHead sizes → sectors_of (shape_of sizes) ≤ sectors
  pub fits : (head : ℕ) → at ≡ point.Survey head
      → sectors_of (shape_of survey.reader.sizes) ≤ sectors

-- where it is, which copies nothing
abbrev pub no_step : CopyStep
no_step = record { left = 0; i = 0; has_bytes = false }

abbrev pub look_at : StartPoint → Surveying → StartStage
look_at at survey = stage_at at survey no_step

-- a read is left
abbrev pub IsLooking : StartStage → Type 0
IsLooking stage.ReadSuper = Unit {0}
IsLooking (stage.ReadHead sizes) = Unit {0}
IsLooking (stage.Survey head survey) = 0 < survey.left
IsLooking at = ⊥

-- those that are left: at most as many as of a start, of which none behind the survey
abbrev pub look_left : StartStage → Tally
look_left stage.ReadSuper = start_left stage.ReadSuper
look_left (stage.ReadHead sizes) = start_left (stage.ReadHead sizes)
look_left (stage.Survey head survey) = surveys_left survey.reader survey.left survey.place
look_left at = none

-- the next read was made: behind the last record it stays
abbrev pub IsLookStep : ℕ → StartStage → List ℕ → StartStage → Type 0
IsLookStep sectors stage.ReadSuper got next = FindsSuper sectors got next
IsLookStep sectors (stage.ReadHead sizes) got next = FindsHead 0 sizes got next
IsLookStep sectors (stage.Survey head survey) got next = (after : Surveying)
    × IsSurveyStep survey.reader survey.left survey.place survey.waiting.items got after.reader
    after.left after.place after.waiting.items × (next ≡ stage.Survey head after)
IsLookStep sectors at got next = ⊥

-- An inspection came to its end, good or refused.
pub record EndsLook (old new : State) (result : Result Inspection StartFault) : Type 0 where
  pub ok : IfOk result (IsInspected old)
  pub err : IfErr result (IsLookRefusal old new)
  pub looks : OnlyLooks old new
