use Rattle.std.proofs.Common.{◌<◌, ◌≤◌, ◌∙◌, ap, refl, arith}
use Rattle.medium.specs.Tally.{Tally, none}
use Rattle.journal.specs.{declared.log_format.LogFormat.TheVariants.Two, Places.sectors_of, Formats.shape_of}
use Rattle.recovery.{specs.Starting.{head_calls, all_calls, home_calls, both}, proofs.Looks.{super_read, super_looked, head_read}}
use Rattle.recovery.proofs.Looks.{head_looked, survey_read, survey_looked, flushed_first, first_made, looked_start, reads_leave, told_by}
use Rattle.recovery.proofs.{Looks.{both_left, no_tries_left, none_left, left_through, survey_goes_left}, StartCopy.{survey_on, copy_made}}
use Rattle.recovery.proofs.{StartCopy.{copy_refused, copies_flushed, head_written, head_flushed, head_flush_made}, FreshLooks.told}
use Rattle.recovery.proofs.starting.StartingMachine.next.Goals as goal

pub returns-in-FlushFirst : goal.returns-in-FlushFirst
returns-in-FlushFirst g c =
    told g.met.M.Medium.sound c.args.self.now c.in-FlushFirst.is tt tt refl
    (λ m n start got least next fits held performed after.
    rw (← held.midway) (first_made g.M.Medium.state g.met.M.Medium.sound least fits performed after))
    (λ m n start got least e held performed. rw (← held.midway) (flushed_first g.M.Medium.state g.met.M.Medium.sound least performed))
    (all_calls 2 Two 64) refl (λ got next after. grind (arith, after))

pub returns-in-ReadSuper : goal.returns-in-ReadSuper
returns-in-ReadSuper g c =
    let some = c.args.self.now.goes.super c.in-ReadSuper.is in
    told g.met.M.Medium.sound c.args.self.now c.in-ReadSuper.is tt some refl
    (λ m n start got least next fits held performed after. looked_start held.midway.1 next
    (super_looked g.met.M.Medium.sound fits some held.midway.2 performed after))
    (λ m n start got least e held performed. reads_leave least held.midway.1 (super_read g.met.M.Medium.sound held.midway.2 performed))
    (all_calls 1 Two 64) refl (λ got next after. grind (arith, after))

pub returns-in-ReadHead : goal.returns-in-ReadHead
returns-in-ReadHead g c =
    let s = c.args.self.now in
    let sizes = c.in-ReadHead.field-0 in
    let some : 1 < s.sectors = omega (arith, s.goes.head sizes c.in-ReadHead.is, sizes.home_is.0) in
    told g.met.M.Medium.sound s c.in-ReadHead.is tt some refl
    (λ m n start got least next fits held performed after. looked_start held.midway.1 next
    (head_looked g.met.M.Medium.sound held.midway.2 performed after))
    (λ m n start got least e held performed. reads_leave least held.midway.1 (head_read g.met.M.Medium.sound held.midway.2 performed))
    (all_calls 0 sizes.format sizes.slots) (grind arith) (λ got next after. grind (arith, after))

-- each call of the survey
pub returns-in-Survey : goal.returns-in-Survey
returns-in-Survey g c =
    let s = c.args.self.now in
    let survey = s.survey in
    let can = s.goes.survey_goes c.in-Survey.field-0 c.in-Survey.is in
    let others = home_calls survey.reader.sizes.format survey.reader.sizes.slots in
    told_by c.call.result (λ none. absurd (omega (arith, can.due, no_tries_left survey.reader survey.left survey.place survey.goes none.0)))
    (λ call tells named. told g.met.M.Medium.sound s c.in-Survey.is tt (grind (arith, can.fits, tells.within)) named
    (λ m n start got least next fits held performed after.
    survey_on g.met.M.Medium.sound held.midway.1 (survey_looked g.met.M.Medium.sound held.midway.2 tells performed after.1) after.2)
    (λ m n start got least e held performed. reads_leave least held.midway.1
    (survey_read g.met.M.Medium.sound held.midway.2 tells performed))
    (both tells.rest others) (ap (λ (t : Tally). both t others) tells.pays ∙ grind arith)
    (λ got next after. survey_goes_left after.1.sizes_stay after.2 (tells.rests got after.0 after.1)))
    c.call.ensures.told c.call.ensures.named

-- and of the copying
pub returns-in-Copy : goal.returns-in-Copy
returns-in-Copy g c =
    let s = c.args.self.now in
    let reader = s.survey.reader in
    let can = s.goes.copy c.in-Copy.field-0 c.in-Copy.is in
    let fits_here : sectors_of (shape_of reader.sizes) ≤ s.sectors = rw can.sizes_are can.fits.fits in
    told_by c.next_copy.result (λ none. absurd (omega (arith, can.due, none_left reader s.step can.can none.0)))
    (λ call tells named. told g.met.M.Medium.sound s c.in-Copy.is tt (grind (arith, fits_here, tells.within)) named
    (λ m n start got least next fits held performed after.
    copy_made g.met.M.Medium.sound held.midway tells performed after.1 after.2)
    (λ m n start got least e held performed. copy_refused g.met.M.Medium.sound held.midway tells performed)
    (both tells.rest head_calls)
    (ap (λ (t : Tally). both t head_calls) tells.pays ∙ grind arith)
    (λ got next after. left_through (grind (arith, after.2)) (both_left head_calls (tells.rests got after.0 after.1))))
    c.next_copy.ensures.told c.next_copy.ensures.kind

-- the flush of the copies
pub returns-in-FlushCopies : goal.returns-in-FlushCopies
returns-in-FlushCopies g c =
    told g.met.M.Medium.sound c.args.self.now c.in-FlushCopies.is tt tt refl
    (λ m n start got least next fits held performed after.
    let moved = copies_flushed g.met.M.Medium.sound held.midway performed in
    rw after (moved.1, record { copied = m; has = held.midway; moves = moved.0; now = performed.done }))
    (λ m n start got least e held performed. (copies_flushed g.met.M.Medium.sound held.midway performed).1)
    (record { reads = 0; writes = 1; flushes = 1 }) refl
    (λ got next after. rw after (grind arith))

-- the head
pub returns-in-WriteHead : goal.returns-in-WriteHead
returns-in-WriteHead g c =
    let s = c.args.self.now in
    let found = c.in-WriteHead.found in
    told g.met.M.Medium.sound s c.in-WriteHead.is tt (omega (arith, (s.goes.move found c.in-WriteHead.is).fits, found.sizes.home_is.0)) refl
    (λ m n start got least next fits held performed after.
    let at = held.midway in
    let head = c.put_head.ensures in
    let moved = head_written g.met.M.Medium.sound at head performed in
    rw after (moved.1, record { copied = at.copied; has = at.has; moves = moved.0; now = grind (arith, performed.done, head, at.now) }))
    (λ m n start got least e held performed. (head_written g.met.M.Medium.sound held.midway c.put_head.ensures performed).1)
    (record { reads = 0; writes = 0; flushes = 1 }) refl
    (λ got next after. rw after (grind arith))

-- its flush
pub returns-in-FlushHead : goal.returns-in-FlushHead
returns-in-FlushHead g c =
    told g.met.M.Medium.sound c.args.self.now c.in-FlushHead.is tt tt refl
    (λ m n start got least next fits held performed after. rw after (head_flush_made g.met.M.Medium.sound held.midway performed))
    (λ m n start got least e held performed. (head_flushed g.met.M.Medium.sound held.midway performed).1)
    none refl (λ got next after. rw after (grind arith))
