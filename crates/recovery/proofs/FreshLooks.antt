-- The calls that a start tells, and which sectors they read of an image in which no record waits.
use Rattle.std.proofs.Common.{◌≡◌, ◌≢◌, ◌∙◌, refl, subst, inl, inr, ℕ, ◌+◌, ◌%◌, ◌<◌, ◌≤◌, List, [], length, arith, rules, Result, Ok, Err}
use Rattle.std.proofs.lemmas.Nat.{mod_below}
use Rattle.medium.specs.{Medium.{State, Image, IsSound}, declared.{medium_call.Call.Call, fault.MediumFault.MediumFault}}
use Rattle.medium.specs.{Performed.{Performed, fault_of, IsWithin, IsReadBy}, Machine.{TellsCall, IsLeft}, Tally.{Tally, one_more}}
use Rattle.medium.proofs.SectorsRead.{looks_joined, looks_wider}
use Rattle.logical_blocks.specs.Blocks.{Array}
use Rattle.journal.specs.{Places.Shape, Layout.CarriesBelowIn, Format2.{format2, commit_place, IsCommitTwo}, Formats.CarriesBelow}
use Rattle.journal.specs.{Formats.{HasWhole, layout_of, shape_of}, declared.{record.Record.Record, naming_stage.NamingStage.NamingStage}}
use Rattle.journal.specs.{declared.log_format.LogFormat.TheVariants.Two, Naming.{IsReader, IsReading, IsKnown, IsToldAt, naming_place}}
use Rattle.journal.{specs.Sectors.{IsHead, IsSuper}, proofs.{Engine.none_carried, Formats.laws_of, SectorNumbers.{IsSuper-one, IsHead-one}}}
use Rattle.recovery.specs.{Calls.{IsFresh, IsReadOfFresh, LooksAtFresh}, HoldsStart.{HoldsStart, HoldsLook, IsFlushedFirst, IsCopying}}
use Rattle.recovery.specs.{HoldsStart.{IsStartCall, IsSurveyCall, StartView}, Starting.{IsStarting, IsStartStep, start_left, start_kind}}
use Rattle.recovery.specs.declared.{surveying.Surveying.Surveying, starting.Starting.Starting, start_point.StartPoint.StartPoint}
use Rattle.recovery.specs.{declared.found.Found.Found, Copying.Copying, Causes.start_fault_of, Recovered.LeavesAtLeast, Stages.StartStage}
use Rattle.recovery.proofs.{Looks.{at_point, stage_of, Goes, survey_held}, StartCopy.ran}
use Rattle.journal.specs.declared.naming_stage.NamingStage.TheVariants as naming
use Rattle.recovery.specs.declared.start_point.StartPoint.TheVariants as point
use Rattle.recovery.specs.Stages as stage

module _ (shape : Shape) (image : Image) (next : ℕ) (some : 1 ≤ shape.slots) (carries : CarriesBelow shape image next) where
  -- in format 2 there is no commit of the next record
  no_commit : shape.format ≡ Two → (count : ℕ) → ¬ IsCommitTwo next count (image (commit_place (next % shape.slots)))
  no_commit two count is =
      let below : CarriesBelowIn format2 shape image next = rw two at carries in
      let less = below (next % shape.slots) 248 next (mod_below next shape.slots some) (omega arith) (search (rules, arith, is)) in
      omega (arith, less)

  -- the next read of a survey is of what tells that the record is not there: no data place is named, nor read
  first_named : (at : NamingStage) (reads : ℕ) (read : Record) → IsReader shape at read → IsKnown shape image next reads at read
      → at ≢ naming.Missing → (at ≡ naming.Named → shape.format ≡ Two)
      → IsReading at × IsToldAt shape.format shape next (naming_place shape next at)
  first_named (naming.Descriptor2 count index) reads read is known there two =
      absurd (no_commit (is.behind_two count index refl).two count known.1.committed)
  first_named naming.Named reads read is known there two =
      absurd (no_commit (two refl) (length read.numbers.items) (rw (two refl) at known.exact).0)
  first_named at reads read is known there two = grind (arith, is.one, is.behind_one, is.two, there)

-- so is what is found behind the first flush: the sizes and the head of the image, and no record
found_fresh : {shape other : Shape} {array : Array} {next head count : ℕ} {old mid : State} {content : Image}
    → IsFresh shape array next old.content → IsFlushedFirst (Ok tt) old mid → content ≡ mid.content → IsSuper other (mid.content 0)
    → IsHead head (mid.content 1) → ((j : ℕ) → j < count → HasWhole other content (head + j))
    → (other ≡ shape) × (head ≡ next) × CarriesBelow shape content next × (count ≡ 0)
found_fresh {shape} {other} {array} {next} {head} {count} {old} {mid} {content} fresh flushed same super is each =
    let stays : mid.content ≡ old.content = λ i s. flushed.content s i in
    let here : IsFresh shape array next mid.content = rw stays fresh in
    let shape_is : other ≡ shape = IsSuper-one _ _ _ super here.super in
    let head_is : head ≡ next = IsHead-one _ _ _ is here.head in
    let carries : CarriesBelow shape content next = rw same here.carries in
    let none = none_carried (layout_of shape.format) (laws_of shape.format) shape here.super.some_slots content next carries in
    let first = λ (some : 0 < count).
    none (subst (λ stamp. HasWhole shape content stamp) (omega (arith, head_is)) (rw shape_is at (each 0 some))) in
    (shape_is, head_is, carries, grind (arith, first))

module _ {M : Type 0} {state : M → State} (sound : (m : M) → IsSound (state m)) {least : ℕ} {start m : M} {had : List ℕ}
    {shape : Shape} {array : Array} {next : ℕ} (fresh : IsFresh shape array next (state start).content) where
  -- the survey
  survey_named : {mid : M} {head : ℕ} {survey : Surveying} {call : Call} → IsFlushedFirst (Ok tt) (state start) (state mid)
      → HoldsLook state least (stage.Survey head survey) had mid m → 0 < survey.left → IsSurveyCall survey.reader call
      → (s : ℕ) → IsReadBy call s → IsReadOfFresh shape next s
  survey_named {mid} {head} {survey} {call} flushed held due named s reads =
      let at = held.midway.0 in
      let surveyed = survey_held state held.midway.1 at.sizes head at.new in
      let image = (state at.began).content in
      let content : image ≡ (state mid).content = λ i s. at.found.read.quiet.content_stays s i in
      let going = surveyed.going due in
      let found = found_fresh {count = length survey.waiting.items} fresh flushed content at.found.has.super at.head_is
      (λ j below. let e = surveyed.each j below in (e.0, e.1)) in
      let stamp_is : survey.reader.stamp ≡ next = omega (arith, going.to.stamp_is, found.1, found.3) in
      let sizes_are : shape_of survey.reader.sizes ≡ shape = rw surveyed.sizes_are at found.0 in
      let told = first_named shape image next fresh.super.some_slots found.2 survey.reader.stage going.reads
      survey.reader.read (rw sizes_are at survey.reader.reads)
      (subst (λ stamp. IsKnown shape image stamp going.reads survey.reader.stage survey.reader.read) stamp_is
      (rw found.0 at going.to.known))
      (survey.goes.there due) (λ is. rw (← sizes_are) (survey.goes.two due is)) in
      let is : s ≡ naming_place shape next survey.reader.stage = rw (named.1 told.0, sizes_are, stamp_is) at reads in
      inr (inr (rw is told.1))

  -- the copying, of which there is none
  none_copied : {found : Found} {copying : Copying} → IsCopying state least found copying had start m → copying.step.left ≡ 0
  none_copied {found} {copying} held =
      let seen = held.0.surveyed in
      let none = found_fresh fresh seen.flushed refl seen.is.shape.super seen.is.head seen.is.count.whole in
      let none_is = (ran sound seen held.0.new held.1 [] none.3 (λ k below. absurd (omega (arith, below)))).1.at.left_is in
      omega (arith, none_is)

  -- each call of a start
  named_at : (machine : Starting) (here : StartPoint) (call : Call) → machine.stage ≡ here
      → HoldsStart state least (at_point machine here) had start m → IsStartCall (at_point machine here) call
      → (s : ℕ) → IsReadBy call s → IsReadOfFresh shape next s
  named_at machine point.ReadSuper call is held named s reads = inl (rw named at reads)
  named_at machine (point.ReadHead sizes) call is held named s reads = inr (inl (rw named at reads))
  named_at machine (point.Survey head) call is held named s reads =
      survey_named held.midway.1 held.midway.2 (machine.goes.survey_goes head is).due named s reads
  named_at machine (point.Copy found) call is held named s reads =
      absurd (omega (arith, none_copied held.midway, (machine.goes.copy found is).due))
  named_at machine here call is held named s reads = absurd (rw named at reads)

module _ {M : Type 0} {state : M → State} (sound : (m : M) → IsSound (state m)) (machine : Starting) {here : StartPoint} {call : Call}
    {had bytes : List ℕ} where
  -- what is read so far, where this call is made, or refused
  looks_on : {least : ℕ} {start m n : M} {got : List ℕ} {result : Result (Unit {0}) MediumFault} → machine.stage ≡ here
      → HoldsStart state least (at_point machine here) had start m → IsStartCall (at_point machine here) call
      → Performed call bytes got result (state m) (state n) → LooksAtFresh (state start) (state n)
  looks_on {m = m} is held named performed shape array next fresh = looks_joined (IsReadOfFresh shape next) _ (state m) _
      (held.looks shape array next fresh)
      (looks_wider (IsReadBy call) _ _ _ (named_at sound fresh machine here call is held named) performed.names)

  -- a start tells this call there
  pub told : machine.stage ≡ here → IsStarting (at_point machine here) → IsWithin machine.sectors call
      → IsStartCall (at_point machine here) call
      → ((m n start : M) (got : List ℕ) (least : ℕ) (next : StartStage) → machine.sectors ≡ (state m).size
      → HoldsStart state least (at_point machine here) had start m → Performed call bytes got (Ok tt) (state m) (state n)
      → IsStartStep machine.sectors least (at_point machine here) got next → Goes state least next got start n)
      → ((m n start : M) (got : List ℕ) (least : ℕ) (e : MediumFault) → HoldsStart state least (at_point machine here) had start m
      → Performed call bytes got (Err e) (state m) (state n) → LeavesAtLeast least (state start) (state n))
      → (rest : Tally) → start_left (at_point machine here) ≡ one_more rest (fault_of call)
      → ((got : List ℕ) (next : StartStage) → IsStartStep machine.sectors machine.least (at_point machine here) got next
      → IsLeft ⊥ (start_left next) rest)
      → TellsCall {M = M} {S = Starting} {V = StartView M} state (λ s size. s.sectors ≡ size)
      (λ s had m view. (s.least ≡ view.least) × HoldsStart state view.least (stage_of s) had view.start m)
      (λ s. s.sectors) (λ s. s.sectors) (λ s. start_left (stage_of s)) ⊥ (λ s. IsStarting (stage_of s))
      (λ s got t. (t.sectors ≡ s.sectors) × (t.least ≡ s.least) × IsStartStep s.sectors s.least (stage_of s) got (stage_of t))
      (λ s t. (t.sectors ≡ s.sectors) × (t.least ≡ s.least) × (t.stage ≡ point.Refused (start_fault_of (start_kind (stage_of s)))))
      machine had call bytes
  told is live within named made leaves rest pays rests = record {
    due = rw is live;
    within = within;
    looks = grind (arith, within);
    made = λ m n got view next fits held performed after.
        let h = rw is at held.1 in
        let goes = made m n view.start got view.least (stage_of next) fits h performed (rw (is, held.0) at after.2) in
        (after.1 ∙ held.0, grind (arith, goes, looks_on is h named performed, performed.passes.failures_are, h.well live));
    refused = λ m n got view next e fits held performed gone.
        let h = rw is at held.1 in
        let moments = h.leaves.moments in
        let kind : fault_of call ≡ start_kind (at_point machine here) = grind arith in
        let all = leaves m n view.start got view.least e h performed in (
          gone.1 ∙ held.0,
          rw (gone.2, is, ← kind)
              (grind (arith, all, looks_on is h named performed, moments.refused_stay (fault_of call), performed.passes)),
        );
    rest = rest;
    pays = rw is pays;
    rests = λ got next after. rests got (stage_of next) (rw is at after.2);
  }
