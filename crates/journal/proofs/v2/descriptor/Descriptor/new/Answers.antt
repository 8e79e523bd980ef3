use Rattle.std.proofs.Common.{◌+◌, ◌*◌, ℕ, List, length, drop, ap, arith, length-take, length-drop, rules}
use Rattle.journal.proofs.SlotTwo.{items_here, sized_from, entries_cut}
use Rattle.journal.proofs.v2.descriptor.Descriptor.new.Goals as goal

pub invariant_of-result : goal.invariant_of-result
invariant_of-result c =
    let numbers = c.args.numbers.now in
    let from : ℕ = 30 * c.args.index in
    let items = items_here c.list_of.result.items numbers from _ c.count_here-here.ensures c.list_of.ensures in
    let long = ap (λ (l : List ℕ). length l) items in
    let sized = sized_from c.args.bytes.now (λ i. 512 * (from + i))
    (λ i below. omega (arith, below, c.count_here-here.ensures, c.requires.size)) c.firsts_in.ensures in
    let entries = entries_cut numbers c.list_of.result.items c.firsts_in.result.items c.args.index c.requires.few
    (omega (arith, c.requires.inside)) c.requires.rising c.requires.small items
    (omega (arith, c.firsts_in.ensures.count, long, length-take 30 (drop from numbers), length-drop from numbers)) sized in
    search rules
