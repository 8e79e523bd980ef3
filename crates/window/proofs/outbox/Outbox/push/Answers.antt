use Rattle.std.proofs.Common.{ap, arith, rules, vec_len}
use Rattle.std.proofs.lemmas.Bool.Decides.{nat_tests}
use Rattle.window.proofs.InRing.{length_calls, pushed, queue}
use Rattle.window.proofs.outbox.Outbox.push.Goals as goal

pub store-requires : goal.store-requires
store-requires c = let lt = rw (← c.self.view_is, length_calls) at c.requires in grind (arith, nat_tests, lt)

pub invariant_of-self-inside : goal.invariant_of-self-inside
invariant_of-self-inside c = let lt = rw (← c.self.view_is, length_calls) at c.requires in search (rules, lt, c.store.ensures.length)

pub returns : goal.returns
returns c =
    let lt = rw (← c.self.view_is, length_calls) at c.requires in
    let place = rw c.len.ensures at c.place_of-place.ensures in
    rw (← c.self.view_is) (ap (queue (vec_len c.self.inside.kinds)) (pushed c.self.inside c.place_of-place.result c.args.kind
    c.args.block.now c.store.new.self.bytes.items place lt c.store.ensures.sectors))
