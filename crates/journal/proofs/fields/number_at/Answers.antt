use Rattle.std.proofs.{Common.arith, lemmas.Grind.common_steps}
use Rattle.journal.{specs.Sectors.number_in, proofs.SectorNumbers.spelling_get}
use Rattle.journal.proofs.fields.number_at.Goals as goal

pub returns-clause-spelled : goal.returns-clause-spelled
unfolding number_in
returns-clause-spelled c numbers below fit is =
    let it = spelling_get c.args.i numbers c.args.sector.now below (fit c.args.i 0 below) is in
    grind (arith, common_steps)
