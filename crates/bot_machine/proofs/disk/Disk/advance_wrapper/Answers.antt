use Rattle.std.proofs.{Common.{rules, arith}, lemmas.List.{with_items_is, places}}
use Rattle.bot_machine.proofs.LaggingGoing.{over_wrapper, waits_wrapper, command_expected}
use Rattle.bot_machine.proofs.disk.Disk.advance_wrapper.Goals as goal

pub returns-in_err-want : goal.returns-in_err-want
returns-in_err-want g c =
    let d = c.self.inside in
    let pends = rw (← c.self.view_is) at c.requires.1 in
    rw (← c.self.view_is, with_items_is d.transfer c.advance_at_once.new.out (search (rules, places)), c.from_residual.ensures)
    (over_wrapper d.unit c.advance_at_once.new.unit d.bulk c.advance_at_once.new.bulk d.transfer.items c.advance_at_once.new.out
    c.args.exchange c.args.wanted pends (rw (← c.self.view_is) at c.requires.0)
    (command_expected d.bulk d.transfer.items pends.expected) c.self.invariant.room (omega (arith, c.deref_mut.ensures.len))
    c.advance_at_once.result c.advance_at_once.ensures c.in_err-want.was)

pub returns : goal.returns
returns g c =
    let d = c.self.inside in
    let pends = rw (← c.self.view_is) at c.requires.1 in
    rw (← c.self.view_is, with_items_is d.transfer c.advance_at_once.new.out (search (rules, places)))
    (waits_wrapper d.unit c.advance_at_once.new.unit d.bulk c.advance_at_once.new.bulk d.transfer.items c.advance_at_once.new.out
    c.args.exchange c.args.wanted pends (rw (← c.self.view_is) at c.requires.0)
    (command_expected d.bulk d.transfer.items pends.expected) c.self.invariant.room (omega (arith, c.deref_mut.ensures.len))
    c.advance_at_once.result c.advance_at_once.ensures c.in_ok-want.want c.in_ok-want.was)
