use Rattle.std.proofs.{Common.{arith, rules}, lemmas.List.{with_items_is, places}}
use Rattle.bot_machine.proofs.PacketRuns.{taken}
use Rattle.bot_machine.proofs.disk.Disk.bulk_out_run.Goals as goal

pub returns-in-DataOut : goal.returns-in-DataOut
returns-in-DataOut g c =
    let d = c.self.inside in
    let pending = c.in-DataOut.pending in
    let held = rw c.in-DataOut.is at c.self.invariant.phase_holds in
    let count_is = rw c.bytes-size.ensures at c.packets_amid-count.ensures in
    let due = rw c.bytes-size.ensures at c.take_more.ensures.due in
    let came = rw (c.bytes-size.ensures, c.deref_mut.ensures.value) at c.take_more.ensures.bytes in
    rw (← c.self.view_is, c.in-DataOut.is, with_items_is d.transfer c.take_more.new.taken (search (rules, places)))
    (taken d.unit d.bulk pending c.take_more.new.pending d.transfer.items c.take_more.new.taken c.args.bytes.now
    c.packets_amid-count.result c.if-self.false (omega (arith, c.if-pending-gt0.true))
    (omega (arith, held.filled_is)) count_is c.take_more.ensures.exchange
    due came)
