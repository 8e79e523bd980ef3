use Rattle.device_file.proofs.system.open_plain.Goals as goal

pub returns-in-Ok-true : goal.returns-in-Ok-true
returns-in-Ok-true g c = c.in-Ok.ensures
