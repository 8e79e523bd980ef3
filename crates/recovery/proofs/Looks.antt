-- A look at an image, read by read; and a start, which begins with a flush and a look behind it: how each goes on, which calls are
-- left of it, and how it ends.
use Rattle.std.proofs.Common.{◌≡◌, ◌≢◌, ◌∙◌, sym, ⊎_elim, ℕ, ◌+◌, ◌*◌, ◌<◌, ◌≤◌, List, length, min, refl, ap, arith, rules, Result, Ok, Err}
use Rattle.std.proofs.Common.{◌⊎◌, ◌-◌, OnOk, Option, MatchOption, IfSome}
use Rattle.medium.proofs.{Driving.{driven_call, driven_refused, not_driven}, Moments.{quiet_call, quiet_joined, quiet_start}}
use Rattle.medium.{proofs.{SectorsRead.{looks_joined, no_looks}, Tallies.{calls_most, none_made, refusal_counts}}, specs.Machine.IsLeft}
use Rattle.medium.specs.{Machine.Tallied, Medium.{IsSound, State}, Moments.IsQuiet, Performed.{Performed, fault_of}, Tally.{Tally, none}}
use Rattle.medium.specs.{Tally.of_all, declared.{fault.MediumFault.MediumFault, medium_call.Call.{Call, TheVariants.{Flush, Read}}}}
use Rattle.journal.{proofs.SectorNumbers.IsSuper-one, specs.{Formats.shape_of, Naming.{IsReader, IsReading, names_left}, Places.Shape}}
use Rattle.journal.specs.{Places.sectors_of, Reading.record_reads_of, Standing.HasShape, declared.naming_stage.NamingStage.NamingStage}
use Rattle.journal.specs.declared.{reader.RecordReader.RecordReader, record.Record.Record, super_sector.Super.Super}
use Rattle.recovery.specs.Causes.{SurveysAtMost, IsRefusalBy, IsSuperCause, AreCounts, AreTries, IsLookCause, WritesNothing, HasFewSlots}
use Rattle.recovery.specs.Starting.{IsReadFirst, FindsSuper, FindsHead, IsNewSurvey, CanStart, CanLook, EndsStart, start_left, both}
use Rattle.recovery.specs.{Starting.{home_calls, IsFoundOn, IsSurveyedOn}, HoldsStart.{HoldsLook, HasLooked, HasReadFirst, HasFound}}
use Rattle.recovery.specs.{HoldsStart.{HasBegun, IsSurveyedSoFar, TellsSurvey, IsMidstart, IsFlushedFirst}, Calls.{HoldsLog, most_reads_of}}
use Rattle.recovery.specs.{Surveying.{HoldsSurveyed, IsSurveyStep, surveys_left, CanSurvey}, declared.surveying.Surveying.Surveying}
use Rattle.recovery.specs.declared.{start_fault.StartFault.StartFault, found.Found.Found, start_point.StartPoint.StartPoint}
use Rattle.recovery.specs.{declared.{copy_step.CopyStep.CopyStep, starting.Starting.Starting}, Copying.{CanCopy, copies_left}}
use Rattle.recovery.{specs.{Stages.{StartStage, stage_at}, Recovered.LeavesAtLeast}, proofs.WholeRecovery.{survey_leaves, refusal}}
use Rattle.recovery.proofs.{JoinedCalls.looked_on, SurveyedRecords.not_tried}
use Rattle.medium.specs.declared.fault.MediumFault.TheVariants as medium
use Rattle.recovery.specs.declared.start_fault.StartFault.TheVariants as fault
use Rattle.recovery.specs.Stages as stage
use Rattle.journal.specs.declared.naming_stage.NamingStage.TheVariants as naming

read_none : (m : State) → HasReadFirst 0 m m
read_none m = grind (arith, quiet_start m, λ (near : ℕ) (holds : HoldsLog near m.size m.content). no_looks (λ s. s < near) m m refl)

read_one : {count place : ℕ} {mid now new : State} {bytes got : List ℕ} {result : Result (Unit {0}) MediumFault}
    → HasReadFirst count mid now → ((near : ℕ) → HoldsLog near mid.size mid.content → place < near)
    → Performed (Read place) bytes got result now new → HasReadFirst (count + 1) mid new
read_one {mid = mid} {now = now} {new = new} so_far below performed =
    let quiet = quiet_joined mid now new so_far.quiet (quiet_call now new performed.passes performed.changes performed.adds) in
    let looks = λ (near : ℕ) (holds : HoldsLog near mid.size mid.content).
    looks_joined (λ s. s < near) mid now new (so_far.looks near holds) (performed.looks near (below near holds)) in
    grind (arith, quiet, looks, performed.passes.others_made, performed.passes.calls_are, so_far.reads)

as_survey : {count : ℕ} {mid now : State} → count ≤ 2 → HasReadFirst count mid now → SurveysAtMost mid now
as_survey few r = grind (arith, r.reads, r.looks)

-- nothing is read yet
pub unread : (m : State) → SurveysAtMost m m
unread m = as_survey (omega arith) (read_none m)

-- what is wrong with a super
super_cause : (least : ℕ) {mid new : State} {bytes : List ℕ} (fault : StartFault) → 0 < mid.size → bytes ≡ mid.content 0
    → IsQuiet mid new → IsSuperCause mid.size bytes fault → IsRefusalBy least IsQuiet mid new fault
super_cause least fault some same quiet h = grind arith

module _ {M : Type 0} (state : M → State) {first : Surveying} {had now_had : List ℕ} {began n : M} {now : Surveying}
    {result : Result (Unit {0}) MediumFault} (so_far : IsSurveyedSoFar state first had began result now now_had n)
    (sizes : Super) (head : ℕ) (new : IsNewSurvey sizes head first) where
  -- it began with none tried
  pub survey_held : HoldsSurveyed state now.reader now.left now.place now.waiting.items
      (record { start = began; sizes = sizes; head = head }) n
  survey_held = (so_far.runs (record { start = began; sizes = sizes; head = head })
      (not_tried first.reader first.left first.place first.waiting.items _ (sym new.sizes_are) new.stamp_is new.left_is new.place_is
      new.none sizes.some_slots (rw new.stamp_is (new.unread.knows)))).1

  -- the super, the head and the reads of the survey
  survey_reads : {mid : M} → HasFound sizes 2 (state mid) (state began) → SurveysAtMost (state mid) (state n)
  survey_reads {mid} found =
      let most : of_all (surveys_left first.reader first.left first.place) ≤ most_reads_of sizes.format * sizes.slots =
      rw (new.left_is, ← new.sizes_are) (grind arith) in
      let one = λ (other : _) (is : HasShape (state mid).size other (state mid).content).
      IsSuper-one other (shape_of sizes) _ is.super found.has.super in
      let quiet = quiet_joined _ _ _ found.read.quiet survey_held.quiet in
      let looks = looked_on (shape_of sizes) _ _ _ found.has found.read.looks (rw new.sizes_are at so_far.looks) in
      grind (arith, quiet, none_made so_far.tallied, found.read, one, looks, calls_most so_far.tallied, most, sizes.most_slots)

module _ {M : Type 0} {state : M → State} (sound : (m : M) → IsSound (state m)) {least : ℕ} {mid : M} where
  -- it begins: there are sectors, or none
  pub look_begun : {sectors : ℕ} {next : StartStage} {got : List ℕ} → sectors ≡ (state mid).size → IsReadFirst sectors next
      → HoldsLook state least next got mid mid
  look_begun size goes = grind (arith, unread (state mid), read_none (state mid), quiet_start (state mid))

  module _ {m n : M} {had bytes got : List ℕ} where
    -- a read was refused
    pub look_refused : {at : StartStage} {call : Call} {e : MediumFault} → HoldsLook state least at had mid m
        → Performed call bytes got (Err e) (state m) (state n) → fault_of call ≡ medium.Read → SurveysAtMost (state mid) (state n)
        → HoldsLook state least (stage.Refused fault.Read) got mid n
    look_refused held performed kind reads = let before = held.reads.only.quiet in
        grind (arith, before.refused_stay medium.Read, performed.passes.refused_are)

    -- the read of the super, made or refused
    super_seen : {result : Result (Unit {0}) MediumFault} → HoldsLook state least stage.ReadSuper had mid m
        → Performed (Read 0) bytes got result (state m) (state n) → HasReadFirst 1 (state mid) (state n)
    super_seen held performed = read_one held.midway (λ near holds. holds.some) performed

    pub super_read : {result : Result (Unit {0}) MediumFault} → HoldsLook state least stage.ReadSuper had mid m
        → Performed (Read 0) bytes got result (state m) (state n) → SurveysAtMost (state mid) (state n)
    super_read held performed = as_survey (omega arith) (super_seen held performed)

    pub super_looked : {sectors : ℕ} {next : StartStage} → sectors ≡ (state m).size → 0 < sectors
        → HoldsLook state least stage.ReadSuper had mid m → Performed (Read 0) bytes got (Ok tt) (state m) (state n)
        → FindsSuper sectors got next → HoldsLook state least next got mid n
    super_looked size some held performed finds =
        let seen = super_seen held performed in
        let same = performed.done ∙ held.midway.quiet.content_stays 0 in
        let here = size ∙ held.midway.quiet.size_stays in
        let cause = λ (f : StartFault). super_cause least f (omega (arith, some, here)) same seen.quiet in
        grind (arith, here, same, super_read held performed, performed, cause)

    module _ {sizes : Super} (held : HoldsLook state least (stage.ReadHead sizes) had mid m) where
      -- the read of the head, made or refused
      head_seen : {result : Result (Unit {0}) MediumFault} → Performed (Read 1) bytes got result (state m) (state n)
          → HasReadFirst 2 (state mid) (state n)
      head_seen performed = read_one held.midway.read
          (λ near holds. omega (arith, holds.log (shape_of sizes) held.midway.has, sizes.home_is.0)) performed

      pub head_read : {result : Result (Unit {0}) MediumFault} → Performed (Read 1) bytes got result (state m) (state n)
          → SurveysAtMost (state mid) (state n)
      head_read performed = as_survey (omega arith) (head_seen performed)

      same_head : Performed (Read 1) bytes got (Ok tt) (state m) (state n) → got ≡ (state mid).content 1
      same_head performed = performed.done ∙ held.midway.read.quiet.content_stays 1

      head_found : (next : StartStage) → Performed (Read 1) bytes got (Ok tt) (state m) (state n) → FindsHead least sizes got next
          → HasLooked state least next got mid n
      head_found (stage.Survey head survey) performed goes =
          let found : HasFound sizes 2 (state mid) (state n) = record { read = head_seen performed; has = held.midway.has } in
          let is = rw (same_head performed) at goes.0 in
          let room = λ (few : HasFewSlots least (state mid).size (state mid).content).
          let one = IsSuper-one few.shape (shape_of sizes) _ few.has.super found.has.super in
          goes.1 (rw one at few.one, rw one at few.few) in (
            record { sizes = sizes; began = n; found = found; head_is = is; room = room; first = survey; first_had = got; new = goes.2 },
            not_driven (λ s had m view holds image cut x. holds.quiet.sets_shrink x (image x) (cut x)) survey got n (sound n),
          )
      head_found (stage.Refused fault.BadHead) performed none =
          (((shape_of sizes, held.midway.has, λ s is. none s (rw (same_head performed) is)), (head_seen performed).quiet), λ e. cc e)
      head_found (stage.Refused fault.LogTooSmall) performed small =
          ((search (rules, held.midway.has, rw (same_head performed) at small.1, small.2), (head_seen performed).quiet), λ e. cc e)
      head_found next performed none = absurd none

      pub head_looked : {next : StartStage} → Performed (Read 1) bytes got (Ok tt) (state m) (state n) → FindsHead least sizes got next
          → HoldsLook state least next got mid n
      head_looked {next = next} performed finds = let midway = head_found next performed finds in
          record { reads = head_read performed; well = λ on. performed.passes.failures_are ∙ held.well tt; midway = midway }

  module _ {head : ℕ} {survey : Surveying} {had : List ℕ} {m : M} (held : HoldsLook state least (stage.Survey head survey) had mid m) where
    abbrev at : HasBegun state least head mid
    at = held.midway.0

    -- the count is that of the image as it was
    pub counted_at_end : survey.left ≡ 0 → (at.sizes ≡ survey.reader.sizes) × AreCounts (shape_of at.sizes)
        (state mid).content head survey.waiting.items × AreTries (shape_of at.sizes) (state mid).content head
        (min (length survey.waiting.items + 1) at.sizes.slots) ((state mid).calls + 2) (state m).calls
    counted_at_end none =
        let surveyed = survey_held state held.midway.1 at.sizes head at.new in
        let end = surveyed.ended none in
        let same : (state at.began).content ≡ (state mid).content = λ i s. at.found.read.quiet.content_stays s i in
        let few : length survey.waiting.items ≤ at.sizes.slots = omega (arith, surveyed.few) in
        let are : AreCounts (shape_of at.sizes) (state at.began).content head survey.waiting.items = record {
          is = record { few = few; whole = λ k below. let e = surveyed.each k below in (e.0, e.1); ends = end.ends };
          each = surveyed.each;
        } in
        let good : (state m).failures ≡ (state at.began).failures = omega (arith, held.midway.1.tallied.failures) in (
          surveyed.sizes_are,
          rw same at are,
          rw (same, at.found.read.calls) at (end.calls good),
        )

    fits_first : sectors_of (shape_of at.first.reader.sizes) ≤ (state at.began).size
    fits_first =
        let same = ap (λ (s : Super). sectors_of (shape_of s)) at.new.sizes_are in
        omega (arith, same, at.found.has.fits, at.found.read.quiet.size_stays)

    module _ {call : Call} {bytes : List ℕ} (tells : TellsSurvey state survey had call bytes) {n : M} {got : List ℕ} where
      -- a call of it is made
      pub survey_looked : {after : Surveying} → Performed call bytes got (Ok tt) (state m) (state n)
          → IsSurveyStep survey.reader survey.left survey.place survey.waiting.items got after.reader after.left after.place
          after.waiting.items
          → HoldsLook state least (stage.Survey head after) got mid n
      survey_looked {after = after} performed step =
          let so_far = driven_call (λ s had m view holds image cut x. holds.quiet.sets_shrink x (image x) (cut x)) fits_first held.midway.1
          tells performed refl after step (λ a b bytes due moved. grind (arith, moved.sizes_stay)) in
          record {
            reads = survey_reads state so_far at.sizes head at.new at.found;
            well = λ live. performed.passes.failures_are ∙ held.well tt;
            midway = (at, so_far);
          }

      -- or refused
      pub survey_read : {e : MediumFault} → Performed call bytes got (Err e) (state m) (state n) → SurveysAtMost (state mid) (state n)
      survey_read {e = e} performed = survey_reads state (driven_refused
          (λ s had m view holds image cut x. holds.quiet.sets_shrink x (image x) (cut x)) fits_first held.midway.1 tells performed e refl
          survey refl) at.sizes head at.new at.found

-- what a start holds at a stage, a look does
pub can_look : {sectors : ℕ} {at : StartPoint} {survey : Surveying} {step : CopyStep} → CanStart sectors at survey step
    → CanLook sectors at survey
can_look can = grind (arith, can.super, can.head, can.survey_goes)

-- a look that asks for no slots is refused by the device, or by a fault of the image
pub look_cause : (old new : State) (why : StartFault) → IsRefusalBy 0 IsQuiet old new why → why ≢ fault.StampsUsedUp
    → IsLookCause old new why
look_cause old new why h other = grind arith

module _ (least : ℕ) where
  -- what the flush and the reads leave
  pub reads_leave : {old mid now : State} → IsFlushedFirst (Ok tt) old mid → SurveysAtMost mid now → LeavesAtLeast least old now
  reads_leave f reads = survey_leaves least f reads (λ more. f.only)

  -- the image has this fault, or the medium refused a call
  pub ended_by : {old new : State} (fault : StartFault) → LeavesAtLeast least old new → IsRefusalBy least WritesNothing old new fault
      → EndsStart least old new (Err fault)
  ended_by fault leaves cause = grind arith

-- what a start leaves behind a call, and what is so before the next one
abbrev pub Goes : {M : Type 0} → (M → State) → ℕ → StartStage → List ℕ → M → M → Type 0
Goes state least at had start m = LeavesAtLeast least (state start) (state m) × IsMidstart state least at had start m

module _ {M : Type 0} {state : M → State} {least : ℕ} {start mid n : M} {got : List ℕ}
    (flushed : IsFlushedFirst (Ok tt) (state start) (state mid)) where
  -- it looks behind a good flush
  pub looked_start : (at : StartStage) → HoldsLook state least at got mid n → Goes state least at got start n
  looked_start (stage.Refused fault) held =
      let leaves = reads_leave least flushed held.reads in
      (leaves, ended_by least fault leaves (refusal least flushed held.reads fault held.midway.0))
  looked_start at held = grind (arith, reads_leave least flushed held.reads, held, flushed)

module _ {M : Type 0} (state : M → State) (sound : (m : M) → IsSound (state m)) (least : ℕ) {m n : M} {bytes got : List ℕ} where
  -- the first flush, made or refused
  pub flushed_first : {result : Result (Unit {0}) MediumFault} → Performed Flush bytes got result (state m) (state n)
      → LeavesAtLeast least (state m) (state n)
  flushed_first {result} performed = survey_leaves least {mid = state n} {result = result}
      (grind (arith, sound m, sound n, performed.passes, performed.changes, performed.adds, performed.done)) (unread (state n))
      (λ more. absurd (omega (arith, more, performed.passes.calls_are)))

  pub first_made : {sectors : ℕ} {next : StartStage} → sectors ≡ (state m).size → Performed Flush bytes got (Ok tt) (state m) (state n)
      → IsReadFirst sectors next → Goes state least next got m n
  first_made {next = next} size performed goes =
      looked_start (grind (arith, sound m, sound n, performed.passes, performed.changes, performed.adds, performed.done.1))
      next (look_begun sound (omega (arith, size, performed.passes.size_stays)) goes)

-- where it is, and what it knows there
abbrev pub at_point : Starting → StartPoint → StartStage
at_point s here = stage_at here s.survey s.step

abbrev pub stage_of : Starting → StartStage
stage_of s = at_point s s.stage

-- what is told, where something else was, and which call it is
pub told_by : {X A C : Type 0} {B D E : X → Type 0} (found : Option X) → (A → C) → ((x : X) → B x → D x → E x) → MatchOption found A B
    → IfSome found D → MatchOption found C E
told_by found ends some is call = grind (arith, ends, some)

-- it was driven to its end, or a call was refused, which ends it
pub at_end : {Exact : Type 0} {cost left rest : Tally} {Live : Type 0} (A : Type 0) {old new : State}
    (result : Result (Unit {0}) MediumFault) → Tallied Exact cost rest result old new → OnOk result ((left ≡ none) × A)
    → (left ≡ none) ⊎ Live → (Live → new.failures ≡ old.failures) → left ≡ none
at_end A result t end here well = grind (arith, refusal_counts result t, well)

-- ---- which calls are left: each call is one of them, and leaves no more than the others
-- a read fewer, and a write fewer
abbrev pub less_read : Tally → Tally
less_read t = record t { reads = t.reads - 1 }

abbrev pub less_write : Tally → Tally
less_write t = record t { writes = t.writes - 1 }

-- how many sectors that name blocks are left
pub names_few : (shape : Shape) (at : NamingStage) (read : Record) → IsReader shape at read → IsReading at
    → (1 ≤ names_left at) × (names_left at ≤ record_reads_of shape.format)
names_few shape (naming.Descriptor2 count index) read reads is = grind (arith, reads.behind_two count index refl)
names_few shape stage read reads is = grind (arith, reads.one, reads.behind_one, reads.two)

-- where no call is left no record is
pub none_left : (reader : RecordReader) (step : CopyStep) → CanCopy reader step → copies_left reader step ≡ none → step.left ≡ 0
none_left reader step goes none_is =
    let few = λ (named : reader.stage ≡ naming.Named). (reader.reads.named named).few in
    grind (arith, goes.there, goes.named, few, names_few _ reader.stage reader.read reader.reads)

-- where no read is left no slot is
pub no_tries_left : (reader : RecordReader) (left place : ℕ) {counted : ℕ} → CanSurvey reader left place counted
    → surveys_left reader left place ≡ none → left ≡ 0
no_tries_left reader left place goes none_is =
    let few = λ (named : reader.stage ≡ naming.Named). (reader.reads.named named).few in
    grind (arith, goes.there, goes.named, goes.two, few, names_few _ reader.stage reader.read reader.reads)

-- ---- a start
-- what is left of some, and the others
pub both_left : {some rest : Tally} (others : Tally) → IsLeft ⊥ some rest → IsLeft ⊥ (both some others) (both rest others)
both_left others is = grind (arith, is.most medium.Read, is.most medium.Write, is.most medium.Flush)

pub left_through : {few some many : Tally} → IsLeft ⊥ few some → IsLeft ⊥ some many → IsLeft ⊥ few many
left_through a b = record { most = λ kind. omega (arith, a.most kind, b.most kind); exact = λ e. absurd e }

-- they are found
found_left : {found : Found} {next : StartStage} {slots : ℕ} → found.count ≤ slots → IsFoundOn found next
    → IsLeft ⊥ (start_left next) (home_calls found.sizes.format slots)
found_left few goes = grind arith

-- the survey goes on, or the records are found
pub survey_goes_left : {head : ℕ} {survey : Surveying} {sizes : Super} {rest : Tally} {next : StartStage} → survey.reader.sizes ≡ sizes
    → IsSurveyedOn head survey next → IsLeft ⊥ (surveys_left survey.reader survey.left survey.place) rest
    → IsLeft ⊥ (start_left next) (both rest (home_calls sizes.format sizes.slots))
survey_goes_left {survey = survey} same goes is = rw (← same) (⊎_elim (λ some. rw some.1 (both_left _ is))
    (λ none. left_through (found_left {slots = survey.reader.sizes.slots} (omega (arith, survey.goes.room)) none.1)
    (grind arith)) goes)
