use Rattle.device_file.proofs.Carried.{part_carried, sync_part}
use Rattle.device_file.proofs.system.SystemFileDeviceFile.sync.Goals as goal

pub invariant_of-self : goal.invariant_of-self
invariant_of-self g c = rw c.of-self-inside.ensures
    (part_carried _ _ _ _ _ (sync_part _ _ _ c.sync_all-synced.ensures.syncs) c.self.invariant)

pub returns-clause-once : goal.returns-clause-once
returns-clause-once g c = rw (← c.self.view_is) (sync_part _ _ _ c.sync_all-synced.ensures.syncs)
