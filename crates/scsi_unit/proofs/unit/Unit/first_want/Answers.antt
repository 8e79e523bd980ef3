use Rattle.std.proofs.{Common.arith, lemmas.Bool.Decides.nat_tests}
use Rattle.scsi_unit.proofs.unit.Unit.first_want.Goals as goal

pub clears-requires : goal.clears-requires
clears-requires g c =
    let all = rw c.in-ModeSelect.is at c.requires in grind (arith, nat_tests, all c.in-ModeSelect.length)
