use Rattle.std.proofs.Common.{ap}
use Rattle.spec.specs.Packets.{bytes_of}
use Rattle.bot_machine.specs.Refinement.{left_of}
use Rattle.bot_machine.proofs.Wrappers.{at_rest_reads}
use Rattle.bot_machine.proofs.disk.Disk.home_sectors.Goals as goal

pub returns-in-Command-clause-exact : goal.returns-in-Command-clause-exact
returns-in-Command-clause-exact g c =
    let d = c.self.inside in
    let left = ap (λ p. left_of (bytes_of d.bulk.size) p d.transfer.items d.bulk.status) c.in-Command.is in
    rw (← c.self.view_is)
    (at_rest_reads _ c.args.packet.now c.wrapper_reads.result c.if-self.false left c.wrapper_reads.ensures.exact)
