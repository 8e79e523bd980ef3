-- What a start and a medium hold between two calls, and the calls that it tells.
use Rattle.std.specs.Prelude.{◌≡◌, ◌≢◌, ◌⊎◌, ℕ, ◌+◌, ◌<◌, ◌≤◌, List, length, Result, Ok, Err, OnOk}
use Rattle.medium.specs.Medium.{State, Image, CutLeaves, Only, Stays, Within, Passes, IsSound}
use Rattle.medium.specs.declared.medium_call.Call.{TheVariants.{Read, Write, Flush}, Call}
use Rattle.medium.specs.{declared.fault.MediumFault.MediumFault, Moments.{EachCut, IsQuiet}}
use Rattle.medium.specs.{Machine.{Driven, TellsCall}, Performed.fault_of}
use Rattle.journal.specs.{Places.{first_home, sectors_of}, declared.super_sector.Super.Super}
use Rattle.journal.specs.{declared.reader.RecordReader.RecordReader, Formats.shape_of}
use Rattle.journal.specs.{Sectors.IsHead, Standing.HasShape, Naming.{naming_place, IsReading}}
use Rattle.recovery.specs.Calls.{IsHomeInRecords, freed_at, Copies, BringsHome, HasNewHead, Writes}
use Rattle.recovery.specs.{Calls.{LooksAtLog, LooksAtFresh}, Causes.{SurveysAtMost, IsSurvey}}
use Rattle.recovery.specs.{Causes.{HasFewSlots, MakesReadsAlone, IsRefusalBy}, Copying.Copying}
use Rattle.recovery.specs.Copying.{CopyView, HoldsCopied, copies_left, copy_kind}
use Rattle.recovery.specs.Surveying.{SurveyView, HoldsSurveyed, surveys_left, IsSurveyStep}
use Rattle.recovery.specs.Recovered.{LeavesAtLeast, IsOursForSome, StandsForOneOf}
use Rattle.recovery.specs.Starting.{EndsStart, IsStarting, IsNewSurvey, IsNewCopying}
use Rattle.recovery.specs.declared.{surveying.Surveying.Surveying, found.Found.Found}
use Rattle.recovery.specs.declared.start_fault.StartFault.TheVariants.{StampsUsedUp}
use Rattle.recovery.specs.Stages.{StartStage}
use Rattle.recovery.specs.Stages as stage
use Rattle.medium.specs.declared.fault.MediumFault.TheVariants as medium

-- A start's cuts: where every image is ours, one that is so for one of the arrays.
abbrev pub MayStart : State → Image → Type 0
MayStart old image = EachCut (IsOursForSome old.size) old → StandsForOneOf old image

-- the medium when a start began that wants at least this many slots in a log of format 1
pub record StartView (M : Type 0) : Type 0 where
  pub start : M
  pub least : ℕ

-- the first flush was made, or refused
pub record IsFlushedFirst (result : Result (Unit {0}) MediumFault) (old mid : State) : Type 0 where
  pub sound : IsSound old
  pub passes : Passes medium.Flush result old mid
  pub content : Stays old.content mid.content
  pub sets : Within mid.may_leave old.may_leave
  pub sound_mid : IsSound mid
  pub only : OnOk result (Only old.content mid.may_leave)

-- reads alone were made, so many, and of no sector that is no part of the log
pub record HasReadFirst (count : ℕ) (mid now : State) : Type 0 where
  pub quiet : IsQuiet mid now
  pub reads : MakesReadsAlone mid now
  pub calls : now.calls ≡ mid.calls + count
  pub looks : LooksAtLog mid now

-- they have found a super of these sizes, or it and the head
pub record HasFound (sizes : Super) (count : ℕ) (mid now : State) : Type 0 where
  pub read : HasReadFirst count mid now
  pub has : HasShape mid.size (shape_of sizes) mid.content

-- the calls of a survey so far, the last of which may have been refused
abbrev pub IsSurveyedSoFar : {M : Type 0} → (M → State) → Surveying → List ℕ → M
    → Result (Unit {0}) MediumFault → Surveying → List ℕ → M → Type 0
IsSurveyedSoFar {M = M} state first began m result now had n =
    Driven {M = M} {S = Surveying} {V = SurveyView M} state
    (λ s size. sectors_of (shape_of s.reader.sizes) ≤ size)
    (λ s had m view. HoldsSurveyed state s.reader s.left s.place s.waiting.items view m)
    (λ view image. CutLeaves (state view.start).may_leave image)
    (λ s. first_home (shape_of s.reader.sizes)) (λ s. sectors_of (shape_of s.reader.sizes))
    (λ s. surveys_left s.reader s.left s.place) ⊥ first began m result now had n

-- so those of a copying
abbrev pub IsCopiedSoFar : {M : Type 0} → (M → State) → Copying → List ℕ → M
    → Result (Unit {0}) MediumFault → Copying → List ℕ → M → Type 0
IsCopiedSoFar {M = M} state first began m result now had n =
    Driven {M = M} {S = Copying} {V = CopyView M} state
    (λ s size. sectors_of (shape_of s.reader.sizes) ≤ size)
    (λ s had m view. HoldsCopied state s.reader s.step had view m)
    (λ view image. CutLeaves (freed_at (IsHomeInRecords (shape_of view.sizes)
    (state view.start).content view.head (length view.records))
    (state view.start).may_leave) image)
    (λ s. first_home (shape_of s.reader.sizes)) (λ s. sectors_of (shape_of s.reader.sizes))
    (λ s. copies_left s.reader s.step) ⊥ first began m result now had n

-- a survey tells this call
abbrev pub TellsSurvey : {M : Type 0} → (M → State) → Surveying → List ℕ → Call → List ℕ → Type 0
TellsSurvey {M = M} state survey had call bytes =
    TellsCall {M = M} {S = Surveying} {V = SurveyView M} state
    (λ s size. sectors_of (shape_of s.reader.sizes) ≤ size)
    (λ s had m view. HoldsSurveyed state s.reader s.left s.place s.waiting.items view m)
    (λ s. first_home (shape_of s.reader.sizes)) (λ s. sectors_of (shape_of s.reader.sizes))
    (λ s. surveys_left s.reader s.left s.place) ⊥ (λ s. 0 < s.left)
    (λ s got t. IsSurveyStep s.reader s.left s.place s.waiting.items got t.reader t.left t.place
    t.waiting.items)
    (λ s t. t ≡ s) survey had call bytes

-- the contents stay, and they alone are left
abbrev pub IsFlushedAgain : Found → State → State → Type 0
IsFlushedAgain found old new = Stays old.content new.content × Only old.content new.may_leave

-- they have the new head
abbrev pub HasMovedHead : Found → State → State → Type 0
HasMovedHead found old new = HasNewHead (found.head + found.count + 1) old.content new.content

module _ {M : Type 0} (state : M → State) (least : ℕ) where
  -- a survey began, of a medium that was looked at from there on
  pub record HasBegun (head : ℕ) (mid : M) : Type 0 where
    pub sizes : Super
    pub began : M
    pub found : HasFound sizes 2 (state mid) (state began)
    pub head_is : IsHead head ((state mid).content 1)
    pub room : ¬ HasFewSlots least (state mid).size (state mid).content
    pub first : Surveying
    pub first_had : List ℕ
    pub new : IsNewSurvey sizes head first

  -- what is so before the next read of a look, or why it was refused
  abbrev pub HasLooked : StartStage → List ℕ → M → M → Type 0
  HasLooked stage.ReadSuper had mid m = HasReadFirst 0 (state mid) (state m)
  HasLooked (stage.ReadHead sizes) had mid m = HasFound sizes 1 (state mid) (state m)
  HasLooked (stage.Survey head survey) had mid m = (b : HasBegun head mid)
      × IsSurveyedSoFar state b.first b.first_had b.began (Ok tt) survey had m
  HasLooked (stage.Refused fault) had mid m =
      IsRefusalBy least IsQuiet (state mid) (state m) fault × (fault ≢ StampsUsedUp)
  HasLooked at had mid m = ⊥

  -- What a look and a medium hold, which stood so when the look began: reads alone were made, and
  -- none was refused while one is left.
  pub record HoldsLook (at : StartStage) (had : List ℕ) (mid m : M) : Type 0 where
    pub reads : SurveysAtMost (state mid) (state m)
    pub well : IsStarting at → (state m).failures ≡ (state mid).failures
    pub midway : HasLooked at had mid m

  -- the survey came to its end, and found this
  pub record HasSurveyed (found : Found) (start seen : M) : Type 0 where
    pub mid : M
    pub flushed : IsFlushedFirst (Ok tt) (state start) (state mid)
    pub reads : SurveysAtMost (state mid) (state seen)
    pub is : IsSurvey least (state mid).size (state mid).content (state mid).calls
        (state seen).calls found

  -- the copying began
  pub record HasBegunCopying (found : Found) (start : M) : Type 0 where
    pub seen : M
    pub surveyed : HasSurveyed found start seen
    pub first : Copying
    pub first_had : List ℕ
    pub new : IsNewCopying found first

  -- and goes on
  abbrev pub IsCopying : Found → Copying → List ℕ → M → M → Type 0
  IsCopying found copying had start m = (b : HasBegunCopying found start)
      × IsCopiedSoFar state b.first b.first_had b.seen (Ok tt) copying had m

  -- the records are home
  pub record HasCopied (found : Found) (start copied : M) : Type 0 where
    pub seen : M
    pub surveyed : HasSurveyed found start seen
    pub copies : Copies found (state seen) (state copied) (Ok tt)
    pub done : BringsHome found (state seen) (state copied)

  -- and behind them so many calls move the head
  pub record IsMovingHead (count : ℕ) (Now : Found → State → State → Type 0) (found : Found)
      (start m : M) : Type 0 where
    pub copied : M
    pub has : HasCopied found start copied
    pub moves : Writes {X = Unit {0}} (λ image. CutLeaves (state copied).may_leave image
        ⊎ HasNewHead (found.head + found.count + 1) (state copied).content image) 2 count
        (state copied) (state m) (Ok tt)
    pub now : Now found (state copied) (state m)

  -- what is so before the next call
  abbrev pub IsMidstart : StartStage → List ℕ → M → M → Type 0
  IsMidstart stage.FlushFirst had start m = m ≡ start
  IsMidstart (stage.Copy found copying) had start m = IsCopying found copying had start m
  IsMidstart (stage.FlushCopies found) had start m = HasCopied found start m
  IsMidstart (stage.WriteHead found) had start m = IsMovingHead 1 IsFlushedAgain found start m
  IsMidstart (stage.FlushHead found) had start m = IsMovingHead 2 HasMovedHead found start m
  IsMidstart (stage.Started answer) had start m =
      EndsStart least (state start) (state m) (Ok answer)
  IsMidstart (stage.Refused fault) had start m = EndsStart least (state start) (state m) (Err fault)
  -- behind a good flush it looks
  IsMidstart at had start m =
      (mid : M) × IsFlushedFirst (Ok tt) (state start) (state mid) × HoldsLook at had mid m

  -- What a start and a medium hold, which stood so when it began: at each moment so far a cut has
  -- left what a recovery promises, no call was refused while one is left, and where no record waits
  -- each read named what tells that.
  pub record HoldsStart (at : StartStage) (had : List ℕ) (start m : M) : Type 0 where
    pub leaves : LeavesAtLeast least (state start) (state m)
    pub well : IsStarting at → (state m).failures ≡ (state start).failures
    pub midway : IsMidstart at had start m
    pub looks : LooksAtFresh (state start) (state m)

-- ---- the calls that it tells

-- The next read of a survey: where the blocks of a record are not named yet, of the sector that its
-- reader asks for.
abbrev pub IsSurveyCall : RecordReader → Call → Type 0
IsSurveyCall reader call = (fault_of call ≡ medium.Read) × (IsReading reader.stage
    → call ≡ Read (naming_place (shape_of reader.sizes) reader.stamp reader.stage))

-- The next call of a start; of a copying its kind alone.
abbrev pub IsStartCall : StartStage → Call → Type 0
IsStartCall stage.ReadSuper call = call ≡ Read 0
IsStartCall (stage.ReadHead sizes) call = call ≡ Read 1
IsStartCall (stage.Survey head survey) call = IsSurveyCall survey.reader call
IsStartCall (stage.Copy found copying) call =
    fault_of call ≡ copy_kind copying.reader.stage copying.step.has_bytes
IsStartCall (stage.WriteHead found) call = call ≡ Write 1
IsStartCall at call = call ≡ Flush
