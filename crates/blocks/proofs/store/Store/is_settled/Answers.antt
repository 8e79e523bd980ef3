use Rattle.std.proofs.Common.{arith}
use Rattle.blocks.proofs.EmptyBatches.{settled, none_left}
use Rattle.blocks.proofs.store.Store.is_settled.Goals as goal

pub returns-then-is_empty-clause-settled : goal.returns-then-is_empty-clause-settled
returns-then-is_empty-clause-settled g c is =
    let sound = g.met.M.Medium.sound c.self.inside.medium in
    let empty = c.is_empty-then-is_empty.ensures.0 is in
    let none = c.is_empty in
    let retired = c.is_retired in
    grind (arith, settled, none_left, sound, empty, c.self, c.is_dead, c.if-is_dead, c.if-self, c.if-not-is_retired, c.if-is_empty)
