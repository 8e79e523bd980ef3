use Rattle.journal.proofs.StandingLaws.{StandsFor-one, stands_or_fault, HasFault-one, HasFault-stands}
use Rattle.journal.proofs.laws.image_laws.Goals as goal

pub returns-clause-arrays : goal.returns-clause-arrays
returns-clause-arrays c size image s r a b t u h k = StandsFor-one size size s r image a b t u h k

pub returns-clause-faults : goal.returns-clause-faults
returns-clause-faults c = record { either = stands_or_fault; not_both = HasFault-stands; one = HasFault-one }
