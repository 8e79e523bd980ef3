use Rattle.std.proofs.Common.{arith}
use Rattle.usbdisk.proofs.Packets.{length-digits}
use Rattle.usbdisk.proofs.runner.words.read_packet.Goals as goal
use Rattle.usbdisk.proofs.runner.words.read_packet.Goals.{then-count-eq0-via-then-count-eq0}
use Rattle.usbdisk.proofs.runner.words.read_packet.Goals.{then-count-eq0-via-else-count-eq0+then-count-most}

pub returns-then-count-eq0-clause-refused : goal.returns-then-count-eq0-clause-refused
returns-then-count-eq0-clause-refused c packet spelled =
    let twice = length-digits spelled in
    elim c.then-count-eq0.branch [
      | then-count-eq0-via-then-count-eq0 w ↦ omega (arith, spelled.some)
      | then-count-eq0-via-else-count-eq0+then-count-most w ↦ omega (arith, spelled.fits)
    ]
