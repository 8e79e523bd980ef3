use Rattle.usbdisk.proofs.live.missing.missing_for.Goals as goal

pub returns-in-None-clause-none : goal.returns-in-None-clause-none
returns-in-None-clause-none g c = λ none home reads. absurd ((rw c.in-None.is at c.home_sectors.ensures.exact) home reads)
