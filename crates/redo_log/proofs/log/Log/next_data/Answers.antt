use Rattle.std.proofs.{Common.{◌≡◌, ◌-◌, ◌≤◌, refl, arith}, lemmas.Bool.Decides.nat_tests}
use Rattle.journal.specs.Places.{limit_of}
use Rattle.redo_log.specs.{Held.made_of, Shown.shown}
use Rattle.redo_log.proofs.{DataPlaces.{descriptors, next_data_is}, RecordSteps.log_is}
use Rattle.redo_log.proofs.log.Log.next_data.Goals as goal

pub returns : goal.returns
returns c =
    let log = c.args.self.now in
    let is = log_is c.self.inside c.self.view_is c.self.invariant in
    let ring = rw c.in-Some.is at c.self.invariant.record_under_way in
    let here : c.in-Some.made ≡ made_of (shown c.self.inside) = rw c.in-Some.is (grind (arith, nat_tests, ring.1)) in
    let made : c.in-Some.made ≡ made_of log = rw (← c.self.view_is) here in
    let first : c.parts.result - c.args.count - 1 ≡ descriptors log.shape.format c.args.count =
    rw (← c.self.view_is, c.parts.ensures) refl in
    let few : c.args.count ≤ limit_of log.shape.format = omega (arith, c.requires.1, is.few) in
    rw (made, first) (next_data_is is c.args.count c.slot_of-slot.result c.copy_place.result few
    (rw (made, first) at c.if-made-first.false) (rw (made, first) at c.if-first-count.false)
    (rw (← c.stamp.ensures, ← c.self.view_is) c.slot_of-slot.ensures)
    (rw (← made, ← first, ← c.self.view_is) c.copy_place.ensures))
