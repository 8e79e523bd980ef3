use Rattle.std.proofs.Common.{arith}
use Rattle.cache.proofs.Arrays.{unlisted_most}
use Rattle.cache.proofs.Neighbours.{between_places}
use Rattle.cache.proofs.place.listed_among.Goals as goal

pub overflow_sub-result : goal.overflow_sub-result
overflow_sub-result c =
    let left = between_places _ _ _ _ _ c.requires.rising c.lower_bound-2.ensures c.lower_bound.ensures in
    omega (arith, left, unlisted_most)

pub returns : goal.returns
returns c =
    let left = between_places _ _ _ _ _ c.requires.rising c.lower_bound-2.ensures c.lower_bound.ensures in
    omega (arith, left, unlisted_most)
