use Rattle.image_calls.proofs.Carrying.{handed_write, handed_flush, whole_write}
use Rattle.image_calls.proofs.carried.Carried.ask.Goals as goal

pub returns-in-Write-clause-carried : goal.returns-in-Write-clause-carried
returns-in-Write-clause-carried g c first began m n is =
    let laws = g.met.T.Machine in
    rw c.in-Write.is (handed_write _ _ _ _ _ _ _ _ _ _ laws.leaves laws.goes_on is c.requires c.in-Write.first
    c.next.new.sector c.made.new.self (rw c.in-Write.is at c.in-Some.ensures) c.made.ensures
    (whole_write c.in-Write.first c.next.new.sector c.is_sector.ensures))

pub returns-in-Flush-clause-carried : goal.returns-in-Flush-clause-carried
returns-in-Flush-clause-carried g c first began m n is =
    let laws = g.met.T.Machine in
    rw c.in-Flush.is (handed_flush _ _ _ _ _ _ _ _ _ _ laws.leaves laws.goes_on is c.requires c.next.new.sector
    c.made-in-Flush.new.self (rw c.in-Flush.is at c.in-Some.ensures) c.made-in-Flush.ensures)
