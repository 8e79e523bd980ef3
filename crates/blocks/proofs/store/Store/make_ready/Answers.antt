use Rattle.std.proofs.{Common.{◌<◌, ◌-◌, arith}, lemmas.Bool.Decides.nat_tests}
use Rattle.theorems.proofs.Steady.{free_is}
use Rattle.blocks.proofs.store.Store.make_ready.Goals as goal

pub returns-then-has_room : goal.returns-then-has_room
returns-then-has_room g c =
    let room = c.has_room.ensures.room.0 c.if-has_room.true in
    grind (arith, c.self.view_is, c.if-not-self.false, c.go_ahead.ensures, free_is, room, c.has_room.ensures.owes.blocks)

pub returns-then-not-self : goal.returns-then-not-self
returns-then-not-self g c = grind (arith, c.self.view_is, c.if-not-self.true, c.make_room.ensures)

pub returns : goal.returns
returns g c =
    let old = c.args.self.now.cached.log in
    let under_way = c.self.invariant.none_under_way (rw (← c.self.view_is) at c.requires.live) (rw (← c.self.view_is) at c.requires.idle) in
    let full : old.next - old.head < old.ring → ⊥ = λ (free : old.next - old.head < old.ring).
    grind (arith, c.self.view_is, under_way, c.requires.idle, c.has_room.ensures.room, c.if-has_room.false) in
    grind (arith, nat_tests, c.self.view_is, c.if-not-self.false, c.make_room-2.ensures, full, c.has_room.ensures.owes.blocks)
