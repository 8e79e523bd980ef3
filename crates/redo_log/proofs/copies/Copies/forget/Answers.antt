use Rattle.std.proofs.{Common.{◌≤◌, length, length-drop, length-append, [], ◌∷◌, arith}, lemmas.List.Elements.{All-drop, All-push}}
use Rattle.redo_log.specs.declared.copies.Memory.{Memory}
use Rattle.redo_log.proofs.copies.Copies.forget.Goals as goal

pub invariant_of-self : goal.invariant_of-self
invariant_of-self c =
    let i = c.self.inside in
    let rest = c.pop_front.ensures.rest in
    let more = c.push_reserved.ensures.items in
    let fewer = length-drop 1 i.kept.items in
    let longer = length-append i.spare.items (c.in-Some.memory ∷ []) in
    let was = c.in-Some.ensures in
    let room : i.most ≤ length c.in-Some.memory.bytes.items =
    grind (arith, c.self.invariant.taken 0 c.in-Some.memory, was.lookup, was.cases) in
    record {
      taken = rw rest (All-drop (λ (m : Memory). i.most ≤ length m.bytes.items) 1 i.kept.items c.self.invariant.taken);
      spare = rw more (All-push (λ (m : Memory). i.most ≤ length m.bytes.items) i.spare.items c.in-Some.memory c.self.invariant.spare room);
      back = rw (rest, more) (omega (arith, fewer, longer, c.self.invariant.back, c.push_reserved.ensures.capacity, was.cases));
      room = rw (rest, more) (omega (arith, fewer, longer, c.self.invariant.room, c.pop_front.ensures.capacity, was.cases));
    }
