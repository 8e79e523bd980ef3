use Rattle.device_file.proofs.Carried.{part_carried, write_part}
use Rattle.device_file.proofs.system.SystemFileDeviceFile.write.Goals as goal

pub invariant_of-self : goal.invariant_of-self
invariant_of-self g c = rw c.of-self-inside.ensures (part_carried _ _ _ _ _
    (write_part c.args.run.now _ _ _ c.write_run-written.ensures.puts) c.self.invariant)

pub returns-clause-once : goal.returns-clause-once
returns-clause-once g c = rw (← c.self.view_is) (write_part c.args.run.now _ _ _ c.write_run-written.ensures.puts)
