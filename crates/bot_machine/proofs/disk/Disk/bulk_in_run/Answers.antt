use Rattle.std.proofs.Common.{◌≤◌, length, arith}
use Rattle.spec.specs.Packets.{bytes_of}
use Rattle.bot_machine.proofs.{Packets.some_bytes, PacketRuns.given}
use Rattle.bot_machine.proofs.disk.Disk.bulk_in_run.Goals as goal

pub returns-in-DataIn : goal.returns-in-DataIn
returns-in-DataIn g c =
    let d = c.self.inside in
    let i = c.in-DataIn in
    let held = rw i.is at c.self.invariant.phase_holds in
    let there : i.to ≤ length d.transfer.items = omega (arith, c.self.invariant.room, held.1) in
    let count_is = rw c.bytes-size.ensures at c.packets_amid-count.ensures in
    let copied = rw (c.bytes-size.ensures, c.deref.ensures.value) at c.copy_from_slice.ensures.after in
    rw (← c.self.view_is, i.is, c.if-self.false, c.bytes-size.ensures)
    (given (bytes_of d.bulk.size) (some_bytes d.bulk.size) d.bulk.locked d.bulk.out_halted d.bulk.status d.transfer.items i.from i.to
    i.halt there d.unit c.args.room.now c.copy_from_slice.new.self c.packets_amid-count.result held.0 count_is copied)
