use Rattle.std.proofs.{Common.{◌≡◌, ◌∙◌, ℕ, ◌+◌, ◌<◌, List, [], length, sym, ap, arith, map}, lemmas.List.{ext_get_or, get_or-map}}
use Rattle.std.proofs.lemmas.List.{length-map}
use Rattle.medium.specs.Medium.{State}
use Rattle.journal.{specs.{Record.Entry, Sectors.IsHead, Standing.HasShape, Formats.{shape_of, layout_of}}, proofs.Formats.laws_of}
use Rattle.journal.proofs.{Wholeness.IsWhole-one, StandingLaws.count_stands}
use Rattle.recovery.specs.{Causes.{AreCounts, IsInspected}, HoldsStart.HoldsLook, declared.inspection.Inspection.Inspection}
use Rattle.recovery.proofs.{Looks.{counted_at_end, look_cause, no_tries_left}, WholeRecovery.served_look}
use Rattle.recovery.specs.Stages as stage
use Rattle.recovery.proofs.inspecting.Inspecting.end.Goals as goal

-- what was read is what the image stands for
inspected : (old : State) (answer : Inspection) → HasShape old.size (shape_of answer.sizes) old.content → IsHead answer.head (old.content 1)
    → AreCounts (shape_of answer.sizes) old.content answer.head answer.waiting.items → IsInspected old answer
inspected old answer has head_is are =
    let shape = shape_of answer.sizes in
    let head = answer.head in
    let counts = answer.waiting.items in
    let s = count_stands old.size shape old.content head (length counts) has.fits has.super head_is are.is in
    let f : List Entry → ℕ = λ entries. length entries in
    -- the counts are those of the records, in order
    let same : counts ≡ map f s.stands.records = ext_get_or 0 counts (map f s.stands.records)
    (sym s.count_is ∙ sym (length-map s.stands.records f)) (λ j below.
    let e = are.each j below in
    let inside : j < length s.stands.records = omega (arith, below, s.count_is) in
    let whole = rw s.head_is at (s.stands.keeps.whole j inside) in
    e.2 ∙ ap f (IsWhole-one (layout_of shape.format) (laws_of shape.format) shape old.content (head + j) e.0 _ e.1 whole)
    ∙ sym (get_or-map f s.stands.records j [] 0 inside)) in
    record { array = s.array; next = head + length counts + 1; stood = s.stands; head_is = sym s.head_is; counts_are = same }

pub returns-in-Survey : goal.returns-in-Survey
returns-in-Survey g c start m had held =
    let survey = c.args.self.survey in
    let head = c.in-Survey.head in
    let h : HoldsLook g.M.Medium.state 0 (stage.Survey head survey) had start m = rw c.in-Survey.is at held in
    let none = no_tries_left survey.reader survey.left survey.place survey.goes (rw c.in-Survey.is at c.requires) in
    let counted = counted_at_end g.met.M.Medium.sound h none in
    record {
      ok = inspected (g.M.Medium.state start) _ (rw counted.0 at h.midway.0.found.has) h.midway.0.head_is (rw counted.0 at counted.1);
      err = tt;
      looks = h.reads.only;
    }

pub returns-in-Refused : goal.returns-in-Refused
returns-in-Refused g c start m had held =
    let fault = c.in-Refused.fault in
    let h : HoldsLook g.M.Medium.state 0 (stage.Refused fault) had start m = rw c.in-Refused.is at held in
    let cause = look_cause _ _ fault h.midway.0 h.midway.1 in
    record { ok = tt; err = record { cause = cause; served = served_look _ _ fault cause }; looks = h.reads.only }
