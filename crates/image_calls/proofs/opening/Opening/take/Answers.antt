use Rattle.std.proofs.Common.{◌≡◌, ◌∙◌, ℕ, List, length, ap, arith}
use Rattle.image_calls.specs.{Inside.{reading_of, Invariant}, Reading.{Reading, Takes}, declared.opening.Opening.TheInside.Inside}
use Rattle.image_calls.proofs.{Kept.{behind, taken}, opening.Opening.take.Goals.After-from}
use Rattle.image_calls.proofs.opening.Opening.take.Goals as goal

abbrev new : After-from → Inside
new c = behind c.self.inside (record c.self.inside { bytes = c.make_room.new.bytes; until = c.until_with-until.result }) c.put.new.bytes
    c.from.result

asked : (c : After-from) → c.self.inside.asked ≡ c.args.self.now.asked
asked c = ap (λ (s : Reading). s.asked) c.self.view_is

after : (c : After-from) → Invariant (new c) × Takes (reading_of c.self.inside) c.args.bytes.now (reading_of (new c))
after c = taken c.self.inside (record c.self.inside { bytes = c.make_room.new.bytes; until = c.until_with-until.result }) c.self.invariant
    c.args.bytes.now c.put.new.bytes c.from.result c.if-not-make_room.ensures (rw c.deref_mut.ensures.value at c.put.ensures)
    (c.put.auto.bytes ∙ ap (λ (l : List ℕ). length l) c.deref_mut.ensures.value) (omega (arith, asked c))
    (rw (← c.self.view_is) at c.until_with-until.ensures.is) c.until_with-until.ensures.few
    (rw (← c.self.view_is) at c.until_with-until.ensures.within) (rw (← c.self.view_is) at c.until_with-until.ensures.stays)
    c.from.ensures

pub invariant_of-self-2 : goal.invariant_of-self-2
invariant_of-self-2 c = (after (goal.at.invariant_of-self-2 c).After-from).0

pub returns : goal.returns
returns c = (omega (arith, asked (goal.at.returns c).After-from), rw (← c.self.view_is) ((after (goal.at.returns c).After-from).1))
