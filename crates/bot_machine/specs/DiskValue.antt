-- What is seen of a disk.
use Rattle.scsi_unit.specs.UnitValue.{UnitValue}
use Rattle.spec.specs.Exchange.{Line}

-- what is seen of a disk: the line to the host, and the unit behind it
pub record DiskValue (M : Type 0) : Type 0 where
  pub line : Line
  pub unit : UnitValue M
