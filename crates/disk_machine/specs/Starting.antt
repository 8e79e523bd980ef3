-- The texts of a disk.
use Rattle.scsi.specs.Identification.{Identification}
use Rattle.disk_machine.specs.declared.identity.UsbDiskIdentity.{UsbDiskIdentity}

-- the texts that C gave
abbrev pub identity_of : UsbDiskIdentity → Identification
identity_of who = record {
  vendor = who.vendor;
  product = who.product;
  revision = who.revision;
  serial = who.serial;
}
