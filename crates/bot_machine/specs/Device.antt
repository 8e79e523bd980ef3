-- What is known of a disk before it starts.
use Rattle.std.specs.Prelude.{ℕ}
use Rattle.scsi.specs.Identification.{Identification}
use Rattle.spec.specs.Lives.{Presentation}
use Rattle.spec.specs.{declared.packet_size.PacketSize.PacketSize, Packets.bytes_of}
use Rattle.bot_machine.specs.declared.lives.lifetimes.DiskSetup.{DiskSetup}
pub use Rattle.scsi_unit.specs.declared.retiring.Retiring.{Retiring}
pub use Rattle.scsi_unit.specs.declared.retiring.Retiring.TheVariants.{Late, Ahead, Kept}

-- who the disk is, how many bytes a bulk packet has at most, and when a record of the log goes home
pub record Device : Type 0 where
  pub identity : Identification
  pub packet_size : ℕ
  pub retiring : Retiring

-- how it presents itself
abbrev pub presented : Device → Presentation
presented device = record { identity = device.identity; packet_size = device.packet_size }

abbrev pub device_by : Identification → PacketSize → Retiring → Device
device_by identity size retiring = record {
  identity = identity;
  packet_size = bytes_of size;
  retiring = retiring;
}

-- one that retires late
abbrev pub device_of : Identification → PacketSize → Device
device_of identity size = device_by identity size Late

-- one that is started with these
abbrev pub device_with : DiskSetup → Device
device_with setup = device_by setup.identity setup.size setup.retiring
