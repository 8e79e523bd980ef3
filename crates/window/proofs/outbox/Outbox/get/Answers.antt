use Rattle.std.proofs.Common.{◌+◌, ◌-◌, ◌*◌, arith, refl}
use Rattle.window.proofs.InRing.{length_calls, one_call}
use Rattle.window.proofs.outbox.Outbox.get.Goals as goal

pub returns-then-at-self-clause-none : goal.returns-then-at-self-clause-none
returns-then-at-self-clause-none c = λ none. rw (← c.self.view_is, length_calls) c.if-at-self.true

pub returns-clause-some : goal.returns-clause-some
returns-clause-some c =
    let at = c.place_of-place.result * 512 in
    let place = rw c.len.ensures at c.place_of-place.ensures in
    let block = rw c.deref.ensures.value at c.in-Ok.ensures.1.same in
    let one = one_call c.self.inside c.args.at c.place_of-place.result at (at + 512 - at) c.index.result.now c.in-Ok.block.now
    c.if-at-self.false place c.index.ensures (omega arith) (omega arith) block in
    rw (← c.self.view_is, one) refl
