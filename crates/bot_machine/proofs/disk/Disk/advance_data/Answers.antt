use Rattle.std.proofs.Common.{sym, subst}
use Rattle.spec.specs.Exchange.{Script}
use Rattle.bot_machine.specs.LaggingParts.{PendsOnLine, disk_of}
use Rattle.bot_machine.proofs.{LaggingPackets.left_data, LaggingGoing.{over_data, waits_data}}
use Rattle.bot_machine.proofs.disk.Disk.advance_data.Goals as goal

pub returns-in_err-want : goal.returns-in_err-want
returns-in_err-want g c =
    let d = c.self.inside in
    let t = c.in-DataOut.taking in
    let is = sym c.in-DataOut.ensures.value in
    let p = subst (λ (l : Script). PendsOnLine l (disk_of d.unit d.bulk d.transfer.items) c.args.wanted)
    (left_data d.bulk d.transfer.items t is) (rw (← c.self.view_is) at c.requires.1) in
    rw (← c.self.view_is, c.from_residual.ensures)
    (over_data d.unit c.advance_taken.new.unit d.bulk c.advance_taken.new.bulk d.transfer.items t c.args.wanted is p.0 p.1
    (rw (← c.self.view_is) at c.requires.0) c.advance_taken.result
    (rw (c.replace.ensures.after, c.deref.ensures.value) at c.advance_taken.ensures) c.in_err-want.was)

pub returns : goal.returns
returns g c =
    let d = c.self.inside in
    let t = c.in-DataOut.taking in
    let is = sym c.in-DataOut.ensures.value in
    let p = subst (λ (l : Script). PendsOnLine l (disk_of d.unit d.bulk d.transfer.items) c.args.wanted)
    (left_data d.bulk d.transfer.items t is) (rw (← c.self.view_is) at c.requires.1) in
    rw (← c.self.view_is)
    (waits_data d.unit c.advance_taken.new.unit d.bulk c.advance_taken.new.bulk d.transfer.items t c.args.wanted is p.0 p.1
    (rw (← c.self.view_is) at c.requires.0) c.advance_taken.result
    (rw (c.replace.ensures.after, c.deref.ensures.value) at c.advance_taken.ensures) c.in_ok-want.want c.in_ok-want.was)
