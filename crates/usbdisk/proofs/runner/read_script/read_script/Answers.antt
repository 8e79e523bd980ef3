use Rattle.usbdisk.proofs.runner.read_script.read_script.Goals as goal

pub returns-in-Ok-clause-good : goal.returns-in-Ok-clause-good
returns-in-Ok-clause-good g c = rw c.as_slice.ensures.value at c.in-Ok.ensures.good
