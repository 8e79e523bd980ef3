-- How a disk starts.
use Rattle.std.specs.Prelude.{◌≡◌, ◌⊎◌, true}
use Rattle.medium.specs.Medium.{State}
use Rattle.logical_blocks.specs.Book.{Book}
use Rattle.scsi_unit.specs.Costs.{HasHeadroom}
use Rattle.scsi_unit.specs.Retiring.{RetiresBy, keeping_of}
use Rattle.scsi_unit.specs.StartFaults.{StartFault, NoMemory}
use Rattle.scsi_unit.specs.Starting.{IsStartedBy, IsStartCause, HasStore, HasLimit, OpensOn}
use Rattle.scsi_unit.specs.Starting.{IsCauseFor, UnitStartFromPost}
use Rattle.scsi.specs.Rules.{opened_unit}
use Rattle.scsi_unit.specs.UnitValue.{unit_limit, state_of}
use Rattle.bot_machine.specs.Device.{Device}
use Rattle.spec.specs.Exchange.{at_rest}
use Rattle.bot_machine.specs.Disk.{DiskValue}
-- what a start leaves is what the start of its unit does
pub use Rattle.scsi_unit.specs.Starting.{StartLeaves, LeavesMedium, LeavesStarted}
-- behind a recovery that was made before
pub use Rattle.scsi_unit.specs.Starting.{Recovered, FitsRecovered, LeftByRecovery, IsStartedFrom}

-- A disk that has started: its store has, a command wrapper is expected, and the unit is one that
-- was just opened, and retires as is known of the disk.
pub record IsOpened {M : Type 0} (before after : State) (device : Device)
    (disk : DiskValue M) : Type 0 where
  pub store : IsStartedBy (keeping_of device.retiring) before after disk.unit.store.cached
  pub line : disk.line ≡ at_rest device.packet_size
  pub retires : RetiresBy device.retiring disk.unit
  -- where it goes ahead its ring is never full
  pub headroom : disk.unit.store.goes_ahead ≡ true → HasHeadroom disk.unit.store.cached.log
  pub unit : (book : Book)
      → state_of disk.unit book ≡ opened_unit (unit_limit disk.unit) device.identity book
  -- its limit is that of the image
  pub limit : HasLimit before.size (unit_limit disk.unit) before.content

-- Why no disk has started: its unit has not, or it has and there is no memory for what the
-- transport keeps. Where a life may open over the contents, only few causes are possible.
pub record IsNotOpened (before after : State) (fault : StartFault) : Type 0 where
  pub cause : IsStartCause before after fault ⊎ ((fault ≡ NoMemory) × HasStore before after)
  pub possible : (book : Book) → OpensOn before book → IsCauseFor book before after fault

-- a disk starts, of which this is known
pub record StartsDisk {M : Type 0} (state : M → State) (Follows : M → M → Type 0) (medium : M)
    (device : Device) (disk : DiskValue M) : Type 0 where
  pub opened : IsOpened (state medium) (state disk.unit.store.medium) device disk
  pub leaves : LeavesStarted state Follows medium disk.unit.store.medium

-- no disk starts, and the medium comes back
pub record RefusesDisk {M : Type 0} (state : M → State) (Follows : M → M → Type 0)
    (medium back : M) (fault : StartFault) : Type 0 where
  pub cause : IsNotOpened (state medium) (state back) fault
  pub leaves : LeavesStarted state Follows medium back

-- A disk that was started behind a recovery with this answer: a command wrapper is expected.
-- Nothing was done to its medium. If that is as the recovery left it, the unit is as one that
-- recovered it itself.
pub record DiskStartFromPost {M : Type 0} (state : M → State) (found : Recovered) (medium : M)
    (device : Device) (disk : DiskValue M) : Type 0 where
  pub line : disk.line ≡ at_rest device.packet_size
  pub unit : UnitStartFromPost device.retiring state found medium device.identity disk.unit
