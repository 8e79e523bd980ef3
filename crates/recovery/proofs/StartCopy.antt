-- The second half of a start, call by call: the copies, what is home at their end, and the new head.
use Rattle.std.proofs.Common.{◌≡◌, ◌∙◌, sym, refl, ⊎_elim, ℕ, ◌+◌, ◌*◌, ◌<◌, ◌≤◌, List, [], length, get_or, arith, Result, Ok, Err, ◌^◌}
use Rattle.std.proofs.Common.{inl, rules}
use Rattle.medium.specs.{declared.{medium_call.Call.{TheVariants.{Write, Flush}, Call}, fault.MediumFault.MediumFault}, Medium.State}
use Rattle.medium.specs.{Medium.{CutLeaves, IsSound}, Moments.{LeavesOnly, EachCut}, Performed.Performed, Tally.of_all}
use Rattle.medium.proofs.{Driving.{not_driven, driven_call, driven_refused}, Tallies.{calls_most, sends_most}, Moments.{at_exit, one_call}}
use Rattle.medium.proofs.Moments.{after_write}
use Rattle.journal.specs.{Formats.{shape_of, IsWhole}, Places.sectors_of, Record.Entry, Sectors.IsHead, Standing.IsOurs}
use Rattle.journal.proofs.StandingLaws.{Stood, count_stands}
use Rattle.recovery.specs.{Calls.{Copies, IsHomeInRecords, freed_at, most_calls_of, Writes}, Copying.{Copying, again, copies_left}}
use Rattle.recovery.specs.{Copying.{HoldsCopied, IsCopyStep, TellsCopy}, Starting.{IsNewCopying, IsCopiedOn, IsSurveyedOn, found_by}}
use Rattle.recovery.specs.{Starting.answer_of, HoldsStart.{IsCopiedSoFar, IsCopying, HasSurveyed, HasCopied, HoldsLook, IsFlushedFirst}}
use Rattle.recovery.specs.{HoldsStart.{HasBegun, IsMovingHead, IsFlushedAgain, HasMovedHead}, Recovered.LeavesAtLeast}
use Rattle.recovery.specs.{declared.{found.Found.Found, surveying.Surveying.Surveying}, Stages.StartStage}
use Rattle.recovery.proofs.{JoinedCalls.{refused_call, flush_writes, writes_on, none_waits}, CopiedBlocks.{not_copied, all_copied}}
use Rattle.recovery.proofs.{Looks.{reads_leave, ended_by, looked_start, Goes, counted_at_end}, WholeRecovery.{Moved, copies_leave, refusal}}
use Rattle.recovery.proofs.WholeRecovery.{moves_leave, recovery_done}
use Rattle.recovery.specs.declared.start_fault.StartFault.TheVariants as fault
use Rattle.recovery.specs.Stages as stage

module _ {M : Type 0} {state : M → State} (sound : (m : M) → IsSound (state m)) {least : ℕ} {start : M} {found : Found} where
  module _ {seen : M} (surveyed : HasSurveyed state least found start seen) where
    module _ {first now : Copying} {had now_had : List ℕ} {n : M} {result : Result (Unit {0}) MediumFault} (new : IsNewCopying found first)
        (so_far : IsCopiedSoFar state first had seen result now now_had n) where
      -- it began with none copied
      pub ran : (records : List (List Entry)) → found.count ≡ length records
          → ((k : ℕ) → k < length records → IsWhole (shape_of found.sizes) (state seen).content (found.head + k) (get_or records k []))
          → LeavesOnly (CutLeaves (freed_at (IsHomeInRecords (shape_of found.sizes) (state seen).content found.head (length records))
          (state seen).may_leave)) (state seen) (state n)
          × HoldsCopied state now.reader now.step now_had
          (record { start = seen; sizes = found.sizes; head = found.head; records = records }) n
      ran records count whole =
          so_far.runs (record { start = seen; sizes = found.sizes; head = found.head; records = records })
          (not_copied first.reader first.step _ _ (sym new.sizes_are) new.stamp_is (omega (arith, new.left_is, count)) new.i_is new.no_bytes
          (rw new.stamp_is (new.unread.knows)) whole)

      copies_by : Stood (state surveyed.mid).size (shape_of found.sizes) (state surveyed.mid).content found.head found.count
          → Copies found (state seen) (state n) result
      copies_by stood =
          let same : (state seen).content ≡ (state surveyed.mid).content = λ i x. surveyed.reads.only.quiet.content_stays x i in
          let run = rw stood.count_is at (ran stood.stands.records (sym stood.count_is)
          (λ k below. rw (same, ← stood.head_is) (stood.stands.keeps.whole k below))) in
          let most : of_all (copies_left first.reader first.step) ≤ most_calls_of found.sizes.format * found.count =
          rw (← new.sizes_are, ← new.left_is) (grind arith) in
          let looks = rw new.sizes_are at so_far.looks in
          let sends = sends_most so_far.tallied in
          let refused = refused_call result so_far.tallied in
          grind (arith, rw stood.count_is at run.1.at.elsewhere, run.0, calls_most so_far.tallied, most, sends, new, looks, refused)

      pub copies_so_far : Copies found (state seen) (state n) result
      copies_so_far = let is = surveyed.is in copies_by (count_stands _ _ _ _ _ is.shape.fits is.shape.super is.head is.count)

      pub copies_leave_so_far : LeavesAtLeast least (state start) (state n)
      copies_leave_so_far = copies_leave least surveyed.flushed surveyed.reads surveyed.flushed.only surveyed.is (sound n) copies_so_far

    -- the records that are to be copied, and none is left
    all_home : {first now : Copying} {had now_had : List ℕ} {n : M} → IsNewCopying found first
        → IsCopiedSoFar state first had seen (Ok tt) now now_had n → now.step.left ≡ 0 → HasCopied state least found start n
    all_home {n = n} new so_far none = record {
      seen = seen;
      surveyed = surveyed;
      copies = copies_so_far new so_far;
      done = λ records count whole. all_copied (ran new so_far records count whole).1 none (omega (arith, so_far.tallied.failures));
    }

  -- records are copied, or all are home
  pub copied_on : {copying : Copying} {had : List ℕ} {n : M} {next : StartStage} → IsCopying state least found copying had start n
      → IsCopiedOn found copying next → Goes state least next had start n
  copied_on at goes = grind (arith, copies_leave_so_far at.0.surveyed at.0.new at.1, at, all_home at.0.surveyed at.0.new at.1, goes)

  module _ {copying : Copying} {had bytes : List ℕ} {m : M} {call : Call}
      (at : IsCopying state least found copying had start m) (tells : TellsCopy state copying had call bytes) where
    fits_first : sectors_of (shape_of at.0.first.reader.sizes) ≤ (state at.0.seen).size
    fits_first = rw at.0.new.sizes_are (omega (arith, at.0.surveyed.is.shape.fits, at.0.surveyed.reads.only.quiet.size_stays))

    -- a call of it is made
    pub copy_made : {n : M} {got : List ℕ} {after : Copying} {next : StartStage} → Performed call bytes got (Ok tt) (state m) (state n)
        → IsCopyStep copying.reader copying.step got after.reader after.step → IsCopiedOn found after next
        → Goes state least next got start n
    copy_made {after = after} performed step goes =
        copied_on (
          at.0,
          driven_call (λ s had m view holds image cut x. holds.at.within x (image x) (cut x)) fits_first at.1 tells performed
              refl after step (λ a b bytes due moved. grind (arith, moved.sizes_stay)),
        ) goes

    -- or refused
    pub copy_refused : {n : M} {got : List ℕ} {e : MediumFault} → Performed call bytes got (Err e) (state m) (state n)
        → LeavesAtLeast least (state start) (state n)
    copy_refused {e = e} performed =
        copies_leave_so_far at.0.surveyed at.0.new (driven_refused (λ s had m view holds image cut x. holds.at.within x (image x) (cut x))
        fits_first at.1 tells performed e refl (again copying) refl)

module _ {M : Type 0} {state : M → State} (sound : (m : M) → IsSound (state m)) {least : ℕ} {start mid n : M} {head : ℕ}
    {survey : Surveying} {got : List ℕ} (flushed : IsFlushedFirst (Ok tt) (state start) (state mid))
    (held : HoldsLook state least (stage.Survey head survey) got mid n) where
  abbrev at : HasBegun state least head mid
  at = held.midway.0

  -- a stamp is left behind the records
  survey_done : survey.left ≡ 0 → head + length survey.waiting.items + 1 < 2 ^ 63 → HasSurveyed state least (found_by head survey) start n
  survey_done none left =
      let counted = counted_at_end sound held none in
      record { mid = mid; flushed = flushed; reads = held.reads; is = grind (arith, counted, at.found.has, at.head_is, left, at.room) }

  -- none is
  survey_used_up : survey.left ≡ 0 → 2 ^ 63 ≤ head + length survey.waiting.items + 1
      → Goes state least (stage.Refused fault.StampsUsedUp) got start n
  survey_used_up none used =
      let has = at.found.has in
      let stood = count_stands (state mid).size (shape_of at.sizes) (state mid).content head (length survey.waiting.items) has.fits
      has.super at.head_is (counted_at_end sound held none).1.is in
      let leaves = reads_leave least flushed held.reads in (
        leaves,
        ended_by least fault.StampsUsedUp leaves (refusal least flushed held.reads fault.StampsUsedUp
            (at.room, (shape_of at.sizes, stood.array, _, stood.stands, used), held.reads.only.quiet)),
      )

  -- the survey goes on, or it came to its end: then the copying begins
  pub survey_on : {next : StartStage} → IsSurveyedOn head survey next → Goes state least next got start n
  survey_on goes = ⊎_elim (λ some. rw some.1 (looked_start flushed (stage.Survey head survey) held))
      (λ none. ⊎_elim (λ used. rw used.1 (survey_used_up none.0 used.0)) (λ on. copied_on sound (
        record { seen = n; surveyed = survey_done none.0 on.0; first = on.1; first_had = got; new = on.2 },
        not_driven (λ s had m view holds image cut x. holds.at.within x (image x) (cut x)) on.1 got n (sound n),
      ) on.3) none.1) goes

-- the head is written over contents that are flushed
head_writes : (found : Found) (copied : State) {old new : State} {bytes got : List ℕ} {result : Result (Unit {0}) MediumFault} → IsSound old
    → IsFlushedAgain found copied old → EachCut (Moved found copied) old → IsHead (found.head + found.count + 1) bytes
    → Performed (Write 1) bytes got result old new → Writes (Moved found copied) 2 1 old new result
head_writes found copied {old = old} {new = new} {bytes = bytes} sound flushed each head performed =
    let written = after_write old sound new.may_leave 1 bytes performed.adds in
    let last : EachCut (Moved found copied) new = λ image cut. grind (arith, each image, flushed.1, head, written image cut) in
    let moments = one_call (Moved found copied) old new sound performed.passes each last in
    grind (arith, moments, performed.spares 2 (omega arith), performed.passes)

-- so many calls were made behind the copies, and what they leave
abbrev pub MovedBy : {M : Type 0} → (M → State) → ℕ → Found → M → M → ℕ → M → Type 0
MovedBy state least found start copied count n = Writes {X = Unit {0}} (Moved found (state copied)) 2 count (state copied) (state n) (Ok tt)
    × LeavesAtLeast least (state start) (state n)

module _ {M : Type 0} {state : M → State} (sound : (m : M) → IsSound (state m)) {least : ℕ} {start : M} {found : Found} where
  -- what so few calls behind the copies leave
  moved_leave : {copied n : M} {count : ℕ} → count ≤ 3 → HasCopied state least found start copied
      → Writes {X = Unit {0}} (Moved found (state copied)) 2 count (state copied) (state n) (Ok tt)
      → LeavesAtLeast least (state start) (state n)
  moved_leave {copied} few has moves = let s = has.surveyed in
      moves_leave least s.flushed s.reads s.flushed.only s.is (sound copied) has.copies has.done few moves

  -- one call more
  moved_on : {m n : M} {count : ℕ} {Now : Found → State → State → Type 0} {result : Result (Unit {0}) MediumFault}
      (at : IsMovingHead state least count Now found start m)
      → (EachCut (Moved found (state at.copied)) (state m) → Writes (Moved found (state at.copied)) 2 1 (state m) (state n) result)
      → (state n).calls ≡ (state m).calls + 1 → count ≤ 2 → MovedBy state least found start at.copied (count + 1) n
  moved_on {m} {result = result} at last one few =
      let each = at_exit (Moved found (state at.copied)) (state at.copied) (state m) (sound m) at.moves.moments in
      let moves = writes_on {X = Unit {0}} {Y = Unit {0}} {Z = Unit {0}} {one = Ok tt} {two = result} {result = Ok tt} at.moves (last each)
      (omega arith) tt (omega (arith, at.moves.exact, one)) in
      (moves, moved_leave (omega (arith, few)) at.has moves)

  module _ {m n : M} {bytes got : List ℕ} where
    module _ {result : Result (Unit {0}) MediumFault} where
      -- the copies are flushed
      pub copies_flushed : HasCopied state least found start m → Performed Flush bytes got result (state m) (state n)
          → MovedBy state least found start m 1 n
      copies_flushed has performed =
          let made = flush_writes {P = Moved found (state m)} {end = 2} (sound m) performed.passes performed.changes performed.adds
          (λ image cut. inl cut) in
          let moves : Writes {X = Unit {0}} (Moved found (state m)) 2 1 (state m) (state n) (Ok tt) =
          grind (arith, made, performed.passes.calls_are) in
          (moves, moved_leave (omega arith) has moves)

      -- the head is written
      pub head_written : (at : IsMovingHead state least 1 IsFlushedAgain found start m) → IsHead (found.head + found.count + 1) bytes
          → Performed (Write 1) bytes got result (state m) (state n) → MovedBy state least found start at.copied 2 n
      head_written at head performed = moved_on at
          (λ each. head_writes found (state at.copied) (sound m) at.now each head performed) performed.passes.calls_are (omega arith)

      -- and flushed
      pub head_flushed : (at : IsMovingHead state least 2 HasMovedHead found start m) → Performed Flush bytes got result (state m) (state n)
          → MovedBy state least found start at.copied 3 n
      head_flushed at performed = moved_on at
          (λ each. flush_writes (sound m) performed.passes performed.changes performed.adds each) performed.passes.calls_are (omega arith)

    pub head_flush_made : IsMovingHead state least 2 HasMovedHead found start m → Performed Flush bytes got (Ok tt) (state m) (state n)
        → Goes state least (stage.Started (answer_of found)) got start n
    head_flush_made at performed =
        let has = at.has in
        let stays = performed.done.0 in
        let moved = head_flushed at performed in
        let s = has.surveyed in
        let both = recovery_done least s.flushed s.reads s.flushed.only s.is (sound at.copied) has.copies has.done (state n)
        (grind (arith, stays, at.now)) (λ s c left. performed.done.1 s c left ∙ sym (stays s)) moved.0.exact in
        let clean = λ (shape : _) (array : _) (next : ℕ) (ours : IsOurs (state start).size shape (state start).content array next).
        none_waits (both.2 shape array next ours (state n).content (sound n).holds_content) in
        (moved.1, search (rules, both, moved.1, clean))
