-- A whole recovery: a flush, reads, copies and the new head; what it leaves up to each of its exits, and why it is refused.
use Rattle.std.proofs.Common.{◌≡◌, ◌⊎◌, inl, inr, ⊎_elim, ℕ, ◌+◌, ◌-◌, ◌*◌, ◌<◌, ◌≤◌, ◌^◌, length, sym, ◌∙◌, arith, rules, mul-le-mul_left}
use Rattle.std.proofs.Common.{min, Result}
use Rattle.medium.specs.{Medium.{State, Image, CutLeaves, Only, LooksOnly, IsSound}, Moments.{EachCut, IsFlushed, LeavesOnly, IsQuiet}}
use Rattle.medium.{specs.{Moments.SparesFrom, Sent.SendsUpTo, declared.fault.MediumFault.MediumFault}, proofs.Moments.{joined_same, weaker}}
use Rattle.medium.proofs.{Moments.{at_exit, only_image, quiet_call, quiet_joined, quiet_leaves}, SparedSectors.spared_quiet}
use Rattle.medium.proofs.{SparedSectors.{spared_joined, spared_behind}, CallsSent.{none_sent, flush_sends}, SectorsRead.no_looks}
use Rattle.medium.proofs.SectorsRead.{looks_joined}
use Rattle.logical_blocks.specs.Blocks.{Array}
use Rattle.journal.specs.{declared.log_format.LogFormat.{LogFormat, TheVariants.Two}, Places.{Shape, first_home, sectors_of, limit_of}}
use Rattle.journal.{specs.{Formats.{shape_of, layout_of}, Record.home_of, Standing.{StandsFor, IsOurs, Stands}}, proofs.StandingLaws.Stood}
use Rattle.journal.proofs.{StandingLaws.{StandsFor-shape, count_stands, heads, counts, StandsFor-one, HasFault-stands}, Formats.laws_of}
use Rattle.journal.proofs.{SectorNumbers.IsSuper-one, Wholeness.CarriesBelow-agree}
use Rattle.recovery.specs.Calls.{copy_calls, most_calls_of, most_reads_of, most_start_of, most_start_sends, AreCopied, IsHomeInRecords}
use Rattle.recovery.specs.{Calls.{HasNewHead, Copies, BringsHome, Writes, HoldsLog}, HoldsStart.IsFlushedFirst, Causes.WritesNothing}
use Rattle.recovery.specs.Causes.{HasFewSlots, IsRefusalBy, IsDeviceFault, AreTriesOf, IsSurvey, SurveysAtMost, IsLookCause}
use Rattle.recovery.specs.Recovered.{IsOursInEither, MigrationLeaves, most_migration_sends, IsRecoveryRefusal, IsRecoveredFrom, IsFresh}
use Rattle.recovery.specs.Recovered.{IsOursForSome, IsOursWithNext, StandsForOneOf, StandsForSome, LeavesAtLeast, StartMoments}
use Rattle.recovery.specs.{Recovered.HasNoneWaiting, declared.start_fault.StartFault.{StartFault, TheVariants.{NoMemory, StampsUsedUp}}}
use Rattle.recovery.{specs.declared.{start_fault.StartFault.TheVariants.LogTooSmall, found.Found.Found}, proofs.JoinedCalls.log_ends}
use Rattle.recovery.proofs.JoinedCalls.{not_in_log, spared_by, AreSame, copies_ours, fresh_ours, quiet_before, quiet_after, looked_on}
use Rattle.journal.specs.Standing as image

-- a look at contents that stand for something is refused by the device
pub served_look : (old new : State) (fault : StartFault) → IsLookCause old new fault → Stands old.size old.content → IsDeviceFault fault
served_look old new NoMemory h s = absurd h
served_look old new fault h s = search (rules, λ (f : image.ImageFault) (h : _). HasFault-stands old.size old.content f h s, h)

-- and so is a start, with a stamp left and enough slots
module _ (least : ℕ) (old new : State) (shape : Shape) (array : Array) (next : ℕ) (s : StandsFor old.size shape old.content array next)
    (left : next < 2 ^ 63) (some : ¬ HasFewSlots least old.size old.content) where
  pub served_slots : (fault : StartFault) → IsRefusalBy least WritesNothing old new fault → IsDeviceFault fault
  served_slots NoMemory h = absurd h
  served_slots StampsUsedUp h = absurd (omega (arith, (StandsFor-one _ _ _ _ _ _ _ _ _ h.1.3 s).1, h.1.4, left))
  served_slots LogTooSmall h = absurd (some h.0)
  served_slots fault h = served_look old new fault (search rules) (shape, array, next, s)

-- a start that asks for no slots is refused as a recovery is
pub recovery_refused : (old new : State) (fault : StartFault) → IsRefusalBy 0 WritesNothing old new fault → IsRecoveryRefusal old new fault
recovery_refused old new fault h =
    let served = λ (shape : Shape) (array : Array) (next : ℕ) (s : StandsFor old.size shape old.content array next) (left : next < 2 ^ 63).
    served_slots 0 old new shape array next s left (λ few. absurd (omega (arith, few.few))) fault h in
    grind (arith, served)

-- tries, with other calls before and behind them
tries_moved : (format : LogFormat) (shape : Shape) (image : Image) (first tries old new before after more : ℕ) → before ≡ old + more
    → after ≡ new + more → AreTriesOf format shape image first tries old new → AreTriesOf format shape image first tries before after
tries_moved format shape image first tries old new before after more e f t = grind arith

-- how many calls a whole recovery makes at most
most_start : (format : LogFormat) (slots old mid seen new count : ℕ) → mid ≡ old + 1 → seen ≤ mid + 2 + most_reads_of format * slots
    → new ≤ seen + most_calls_of format * count + 3 → count ≤ slots → new ≤ old + 6 + most_start_of format * slots
most_start format slots old mid seen new count a b c few = grind arith

-- whatever the format and the slots
most_of : (format : LogFormat) (slots : ℕ) → slots ≤ 64
    → (most_start_of format * slots ≤ 738 * 64) × (most_start_sends format slots ≤ most_start_sends Two 64)
most_of format slots few = (grind arith, grind arith)

-- a few are no more than those that copy no block
few_sent : (format : LogFormat) (slots : ℕ) (old new : State) (few : ℕ) → few ≤ 4 → SendsUpTo few old new
    → SendsUpTo (most_start_sends format slots - limit_of format * slots) old new
few_sent format slots old new few most sends = omega (arith, most, sends)

-- what a cut leaves while the head is moved
abbrev pub Moved : Found → State → Image → Type 0
Moved found copied image = CutLeaves copied.may_leave image ⊎ HasNewHead (found.head + found.count + 1) copied.content image

-- a start, and behind its first good flush other calls
pub start_on : {Is : ℕ → Shape → Array → ℕ → Image → Type 0} {few_calls few_sends most_calls most_sends : LogFormat → ℕ → ℕ} {least : ℕ}
    {old mid new : State} {shape : Shape} {array : Array} {next : ℕ} → IsSound old → StandsFor old.size shape old.content array next → next
    < 2 ^ 63 → (¬ HasFewSlots least old.size old.content) → StartMoments Is few_calls few_sends least old mid → old.calls + 2 ≤ mid.calls
    → ((array : Array) (next : ℕ) → IsOurs old.size shape old.content array next → LeavesOnly (Is old.size shape array next) mid new)
    → SparesFrom (sectors_of shape) mid new → LooksOnly (λ s. s < first_home shape) mid new
    → new.calls ≤ old.calls + 6 + most_calls shape.format shape.slots → most_calls shape.format shape.slots ≤ 738 * 64
    → SendsUpTo (most_sends shape.format shape.slots) old new → most_sends shape.format shape.slots ≤ most_start_sends Two 64
    → (HasNoneWaiting shape old.content → SendsUpTo (most_sends shape.format shape.slots - limit_of shape.format * shape.slots) old new)
    → StartMoments Is most_calls most_sends least old new
start_on {Is} {old = old} {mid = mid} {new = new} {shape = shape} sound stands left room first begun ours spares looks calls all_calls sent
    all_sent clean =
    let has = StandsFor-shape _ _ _ _ _ stands in
    let one : (other : Shape) → image.HasShape old.size other old.content → other ≡ shape =
    λ other its. IsSuper-one other shape (old.content 0) its.super has.super in
    let later : (other : Shape) (array : Array) (next : ℕ) → IsOurs old.size other old.content array next
    → LeavesOnly (Is old.size other array next) mid new = λ other array next theirs.
    let is = IsSuper-one other shape (old.content 0) theirs.stands.keeps.super has.super in
    rw is (ours array next (rw is at theirs)) in
    record {
      cuts = λ each.
          let e = each old.content sound.holds_content in
          joined_same _ old mid new (first.cuts each)
          (weaker (Is old.size e.0 e.1 e.2) (StandsForSome Is old) _ _ (λ image is. search (rules, e.3, is, sound.holds_content))
          (later e.0 e.1 e.2 e.3));
      after_flush = λ other array next ours more image since. ⊎_elim
          (first.after_flush other array next ours begun image) (λ now. now)
          ((later other array next ours).before (old.calls + 1) image (omega (arith, begun)) since);
      spares = record {
        behind = λ other its. rw (one other its)
            (spared_joined (sectors_of shape) old mid new (first.spares.behind shape has) spares);
        unserved = λ none. let past = none shape _ _ stands in absurd (omega (arith, past, left));
      };
      small = λ few. absurd (room few);
      moments = joined_same (λ _. Unit {0}) old mid new first.moments (weaker _ _ _ _ (λ image p. tt) spares.moments);
      calls = omega (arith, calls, all_calls);
      most = λ other its. rw (one other its) calls;
      sends = record {
        most = λ other its. rw (one other its) sent;
        clean = λ other its. rw (one other its) clean;
        none = λ no. absurd (no shape has);
        any = omega (arith, sent, all_sent);
      };
      looks = looked_on shape old mid new has first.looks looks;
    }

module _ (least : ℕ) {old mid seen : State} {result : Result (Unit {0}) MediumFault} (known : IsFlushedFirst result old mid)
    (reads : SurveysAtMost mid seen) where
  pub flushed : IsQuiet old mid
  flushed = quiet_call old mid known.passes known.content known.sets

  -- what held of the medium behind the flush held before it
  back : (P : ℕ → Image → Type 0) → P mid.size mid.content → P old.size old.content
  back P h = quiet_before P old mid flushed h

  quiet : IsQuiet old seen
  quiet = quiet_joined old mid seen flushed reads.only.quiet

  same : seen.content ≡ old.content
  same = λ i s. quiet.content_stays s i

  one_sent : SendsUpTo 1 old seen
  one_sent = omega (arith, flush_sends old mid known.passes, none_sent mid seen reads.only.reads)

  -- from the first good flush up to the first write there is one image
  seen_after : Only old.content mid.may_leave → (shape : Shape) (array : Array) (next : ℕ) → IsOurs old.size shape old.content array next
      → (image : Image) → seen.left_since (old.calls + 1) image → IsOursWithNext old.size shape array next image
  seen_after only shape array next ours image since =
      let here = rw (← known.passes.calls_are) at since in
      let is = only_image old.content mid.may_leave only image
      (⊎_elim (λ was. known.sound_mid.only_now image was) (λ now. now)
      (reads.only.quiet.nothing_else mid.calls image (omega arith) here)) in
      inl (rw is ours)

  -- the flush, and behind a good one the survey
  pub survey_leaves : (old.calls + 2 ≤ seen.calls → Only old.content mid.may_leave) → LeavesAtLeast least old seen
  survey_leaves good =
      -- before the first call an image that is allowed stands for itself
      let cuts = λ (each : EachCut (IsOursForSome old.size) old). quiet_leaves (StandsForOneOf old) old seen known.sound
      (λ image cut. let e = each image cut in search (rules, e.3)) quiet in
      let moments = quiet_leaves (λ _. Unit {0}) old seen known.sound (λ image cut. tt) quiet in
      let most = λ (shape : Shape) (has : image.HasShape old.size shape old.content).
      most_start shape.format shape.slots old.calls mid.calls seen.calls seen.calls 0 known.passes.calls_are
      (reads.most shape (quiet_after (λ n i. image.HasShape n shape i) old mid flushed has)) (omega arith) (omega arith) in
      let clean = λ (shape : Shape) (has : image.HasShape old.size shape old.content) (none : HasNoneWaiting shape old.content).
      few_sent shape.format shape.slots old seen 1 (omega arith) one_sent in
      let looks = λ (near : ℕ) (holds : HoldsLog near old.size old.content). looks_joined (λ s. s < near) old mid seen
      (no_looks _ old mid (known.passes.looked_stays (λ e. cc e)))
      (reads.only.looks near (quiet_after (λ n i. HoldsLog near n i) old mid flushed holds)) in
      search
      (rules, cuts, seen_after, good, moments, known.passes.calls_are, most, one_sent, clean, looks, spared_quiet, quiet, known.sound)

  -- a refusal by the survey is one by the flush and it
  pub refusal : (fault : StartFault) → IsRefusalBy least IsQuiet mid seen fault → IsRefusalBy least WritesNothing old seen fault
  refusal fault h =
      let wrote_nothing : WritesNothing old seen =
      search (rules, quiet, reads.only.reads, known.passes.others_made, known.passes.made_is) in
      let here : mid.content ≡ old.content = λ i s. flushed.content_stays s i in
      grind (arith, here, flushed, wrote_nothing)

  module _ {copied : State} {found : Found} {copies : Result (Unit {0}) MediumFault} (only : Only old.content mid.may_leave)
      (survey : IsSurvey least mid.size mid.content mid.calls seen.calls found) (sound : IsSound copied)
      (copying : Copies found seen copied copies) where
    abbrev shape : Shape
    shape = shape_of found.sizes

    at_old : IsSurvey least old.size old.content mid.calls seen.calls found
    at_old = back (λ n i. IsSurvey least n i mid.calls seen.calls found) survey

    -- for what the contents stand
    stood : Stood old.size shape old.content found.head found.count
    stood = count_stands old.size shape old.content found.head found.count at_old.shape.fits at_old.shape.super at_old.head at_old.count

    -- a survey follows a good flush
    begun : old.calls + 2 ≤ seen.calls
    begun = let exact = survey.exact in grind (arith, exact, known.passes.calls_are)

    -- the head and the count are those of all for which they stand
    matches : {array : Array} {next : ℕ} (s : StandsFor old.size shape old.content array next)
        → (found.head ≡ s.head) × (found.count ≡ length s.records)
    matches s = (sym stood.head_is ∙ heads _ _ _ _ _ _ _ _ stood.stands s, sym stood.count_is ∙ counts _ _ _ _ _ _ _ _ stood.stands s)

    -- each sector is as it was, or is the home of a block that is copied
    copied_ours : {array : Array} {next : ℕ} → IsOurs old.size shape old.content array next
        → LeavesOnly (λ image. IsOurs old.size shape image array next) seen copied
    copied_ours ours =
        let f = matches ours.stands in
        weaker _ _ _ _ (λ image cut. copies_ours ours found.head found.count f.0 f.1 image
        (λ x. ⊎_elim (λ left. inl (only x (image x) (reads.only.quiet.sets_shrink x (image x) left)))
        (λ home. inr (rw same at home)) (cut x))) copying.moments

    copied_spares : SparesFrom (sectors_of shape) seen copied
    copied_spares =
        -- nothing behind the image is at home
        let apart : (x : ℕ) → sectors_of shape ≤ x → ¬ IsHomeInRecords shape seen.content found.head found.count x =
        λ x past home. omega (arith, home.2.1.fit.inside home.2.2.0 0 home.2.2.1, home.2.2.2, past) in
        spared_by (sectors_of shape) seen copied sound (λ s le. copying.elsewhere s (apart s le))
        (weaker _ _ _ _ (λ image cut s le. ⊎_elim (λ was. was) (λ place. absurd (apart s le place)) (cut s)) copying.moments)

    copied_log : (x : ℕ) → x < first_home shape → copied.content x ≡ old.content x
    copied_log x below = copying.elsewhere x (not_in_log shape seen.content found.head found.count x below) ∙ quiet.content_stays x

    few : (new calls : ℕ) → calls ≤ 3 → new ≤ copied.calls + calls
        → new ≤ old.calls + 6 + most_start_of found.sizes.format * found.sizes.slots
    few new calls some made = most_start found.sizes.format found.sizes.slots old.calls mid.calls seen.calls new found.count
        known.passes.calls_are (reads.most shape survey.shape) (omega (arith, copying.calls, some, made)) survey.count.few

    sent_few : SendsUpTo (limit_of found.sizes.format * found.sizes.slots + 1) old copied
    sent_few = omega (arith, mul-le-mul_left (limit_of found.sizes.format) at_old.count.few, one_sent, copying.sent)

    -- where no record waits none is copied
    sent_none : HasNoneWaiting shape old.content → SendsUpTo 1 old copied
    sent_none none =
        let no_record : found.count ≡ 0 = grind (arith, none found.head at_old.head, at_old.count.whole 0) in
        omega (arith, one_sent, rw no_record at copying.sent)

    -- at any moment from the first write on each image is ours for the contents
    pub copies_leave : LeavesAtLeast least old copied
    copies_leave =
        let most = most_of found.sizes.format found.sizes.slots found.sizes.most_slots in
        start_on {shape = shape} known.sound stood.stands at_old.stamp_left at_old.room (survey_leaves (λ more. only))
        begun (λ array next ours. weaker _ _ _ _ (λ image o. inl o) (copied_ours ours)) copied_spares copying.looks
        (few copied.calls 0 (omega arith) (omega arith)) most.0 (omega (arith, sent_few)) most.1
        (λ none. few_sent found.sizes.format found.sizes.slots old copied 1 (omega arith) (sent_none none))

    -- they were good: the records are home
    module _ (done : BringsHome found seen copied) where
      -- the records of what the contents stand for are copied
      all_copied : {array : Array} {next : ℕ} (s : StandsFor old.size shape old.content array next) → AreCopied shape s.records seen copied
      all_copied s = let f = matches s in done s.records f.1 (λ k less. rw (same, f.0) (s.keeps.whole k less))

      copied_home : {array : Array} {next : ℕ} → StandsFor old.size shape old.content array next
          → AreSame shape (home_of shape copied.content) array
      copied_home s b below = grind (arith, (all_copied s).home b, same, s.keeps.blocks b below)

      -- the new head, once every block is at home
      moved_fresh : {array : Array} {next : ℕ} {image : Image} → IsOurs old.size shape old.content array next
          → HasNewHead (found.head + found.count + 1) copied.content image → IsFresh shape array next image
      moved_fresh {next = next} {image = image} ours moved =
          let f = matches ours.stands in
          let super = ours.stands.keeps.super in
          let ends = log_ends shape super.home_is in
          let carries = CarriesBelow-agree (layout_of shape.format) (laws_of shape.format) shape old.content image next
          (λ x low high. moved.elsewhere x (λ e. omega (arith, low, e)) ∙ copied_log x (omega (arith, high, ends))) ours.carries in
          grind (arith, moved.elsewhere, copied_log 0, super, ends, f, ours.stands.next_is, moved.head, copied_home ours.stands, carries)

      -- the copies, and perhaps the new head
      pub moves_leave : {new : State} {count : ℕ} {moves : Result (Unit {0}) MediumFault} → count ≤ 3
          → Writes (Moved found copied) 2 count copied new moves → LeavesAtLeast least old new
      moves_leave {new = new} {count = count} some moves =
          let most = most_of found.sizes.format found.sizes.slots found.sizes.most_slots in
          start_on {shape = shape} known.sound stood.stands at_old.stamp_left at_old.room copies_leave
          (omega (arith, begun, copying.moments.later)) (λ array next ours. weaker _ _ _ _
          (λ image either. ⊎_elim (λ cut. inl (at_exit _ seen copied sound (copied_ours ours) image cut))
          (λ moved. inr (fresh_ours at_old.shape.fits (moved_fresh ours moved))) either) moves.moments)
          (spared_behind 2 (sectors_of shape) copied new (omega arith) moves.spares)
          (no_looks _ copied new moves.reads.looked_stays) (few new.calls count some moves.calls) most.0
          (omega (arith, sent_few, moves.sent, some)) most.1
          (λ none. few_sent found.sizes.format found.sizes.slots old new 4 (omega arith) (omega (arith, sent_none none, moves.sent, some)))

      module _ (new : State) (head : HasNewHead (found.head + found.count + 1) copied.content new.content) (durable : IsFlushed new) where
        pub recovery_done : new.calls ≡ copied.calls + 3
            → IsRecoveredFrom old new (record { sizes = found.sizes; next = found.head + found.count + 1 })
            × (¬ HasFewSlots least old.size old.content) × ((other : Shape) (array : Array) (next : ℕ)
            → IsOurs old.size other old.content array next → EachCut (IsFresh other array next) new)
        recovery_done last =
            let s = stood.stands in
            let ends = log_ends shape at_old.shape.super.home_is in (
              record {
                array = stood.array;
                stood = s;
                stamp_left = at_old.stamp_left;
                flushed = durable;
                head = head.head;
                home = λ b below. head.elsewhere (first_home shape + b) (λ e. omega (arith, e, ends)) ∙ copied_home s b below;
                elsewhere = λ x not other. head.elsewhere x not
                    ∙ ⊎_elim (copied_log x) (λ past. copied_spares.content x past ∙ quiet.content_stays x) other;
                calls = tries_moved found.sizes.format shape old.content s.head (min (length s.records + 1) found.sizes.slots)
                    (mid.calls + 2) seen.calls (old.calls + 6 + copy_calls found.sizes.format s.records) new.calls
                    (copy_calls found.sizes.format s.records + 3) (omega (arith, known.passes.calls_are))
                    (omega (arith, (all_copied s).exact, last)) (rw (stood.head_is, stood.count_is) at_old.exact);
              },
              at_old.room,
              λ other array next ours image cut.
                  let is = IsSuper-one other shape (old.content 0) ours.stands.keeps.super at_old.shape.super in
                  rw (is, only_image new.content new.may_leave durable image cut) (moved_fresh (rw is at ours) head),
            )

-- a recovery is a part of a migration
start_migrates : (format : LogFormat) (slots : ℕ) → most_start_sends format slots ≤ most_migration_sends format slots
start_migrates format slots = grind arith

-- what a recovery leaves
pub recovery_leaves : (old new : State) → LeavesAtLeast 5 old new → MigrationLeaves old new
recovery_leaves old new leaves =
    let cuts = λ (each : EachCut (IsOursForSome old.size) old). weaker (StandsForOneOf old) (StandsForSome IsOursInEither old) old new
    (λ image o. search (rules, o)) (leaves.cuts each) in
    grind (arith, cuts, leaves, start_migrates)
