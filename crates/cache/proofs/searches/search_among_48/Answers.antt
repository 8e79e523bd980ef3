use Rattle.std.proofs.Common.{◌≤◌, arith}
use Rattle.cache.proofs.searches.search_among_48.Goals as goal

pub returns : goal.returns
returns c =
    let few = c.search.ensures.few in
    let six : few.digits ≤ 6 = few.has.least 6 (omega (arith, c.requires)) in
    omega (arith, few.within, six)
