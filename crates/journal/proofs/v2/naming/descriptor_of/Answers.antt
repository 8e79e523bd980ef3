use Rattle.std.proofs.Common.{rules, arith}
use Rattle.journal.proofs.v2.naming.descriptor_of.Goals as goal

pub returns-else-found-stamp : goal.returns-else-found-stamp
returns-else-found-stamp c numbers firsts is =
    let all = c.in_ok-found.ensures.all c.args.stamp c.args.count c.args.j numbers firsts is in search (rules, arith)
