use Rattle.std.proofs.Common.{true}
use Rattle.device_file.specs.InRuns.{Takes}
use Rattle.device_file.specs.Reads.{sectors_in}
use Rattle.device_file.specs.Copied.{some_writes, waiting_in}
use Rattle.device_file.proofs.putting.put_sectors.Given as goal

abbrev pub invariant-sectors : goal.invariant-sectors
invariant-sectors g l = Takes g.D.DeviceFile.told g.D.DeviceFile.at_once g.D.DeviceFile.size
    (some_writes l.first (sectors_in l.i l.bytes)) l.fn.file l.file (waiting_in l.fn.run) (waiting_in l.run) true
