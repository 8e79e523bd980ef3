use Rattle.std.proofs.{Common.{rules, refl, sym, ap}, lemmas.List.{with_items_is, places}}
use Rattle.spec.specs.Packets.{bytes_of}
use Rattle.bot_machine.specs.Refinement.{left_of}
use Rattle.scsi_unit.proofs.UnitRuns.{comes_itself}
use Rattle.bot_machine.proofs.OutPackets.{stalled, not_ready, served, sends}
use Rattle.bot_machine.proofs.disk.Disk.bulk_out.Goals as goal

pub returns-then-self-clause-step : goal.returns-then-self-clause-step
returns-then-self-clause-step g c =
    rw (← c.self.view_is) (stalled _ _ c.args.packet.now (g.met.M.Medium.sound c.self.inside.unit.store.medium) (sym c.if-self.true))

pub returns-in-Command-clause-step : goal.returns-in-Command-clause-step
returns-in-Command-clause-step g c =
    let d = c.self.inside in
    let passes = c.open.ensures.passes in
    let expected = ap (λ p. left_of (bytes_of d.bulk.size) p d.transfer.items d.bulk.status) c.in-Command.is in
    rw (← c.self.view_is, with_items_is d.transfer c.open.new.transfer (search (rules, places)))
    (served _ _ _ _ _ _ _ _ c.args.packet.now c.if-self.false (sym expected) (rw c.deref_mut.ensures.value at c.open.ensures.serves) passes
    (λ s at. (at.0, record { unhalted = c.if-self.false; expected = expected; wrapper = at.1 }, at.2)) (ap bytes_of passes.size))

pub returns-in-DataOut-clause-step : goal.returns-in-DataOut-clause-step
returns-in-DataOut-clause-step g c =
    let d = c.self.inside in
    let passes = c.take_data.ensures.passes in
    rw (← c.self.view_is, with_items_is d.transfer c.take_data.new.transfer (search (rules, places)))
    (served _ _ _ _ _ _ _ _ c.args.packet.now c.if-self.false refl
    (rw c.deref_mut-in-DataOut.ensures.value at c.take_data.ensures.serves) passes (λ s at. absurd at) (ap bytes_of passes.size))

pub returns-in_default-clause-step : goal.returns-in_default-clause-step
returns-in_default-clause-step g c =
    let d = c.self.inside in
    let sent = sends d.bulk.phase (λ e. c.in_default.not-Command e) (λ t e. c.in_default.not-DataOut t e)
    (bytes_of d.bulk.size) d.transfer.items d.bulk.status in
    rw (← c.self.view_is)
    (not_ready _ _ c.args.packet.now sent.0 sent.1 d.bulk.status (g.met.M.Medium.sound d.unit.store.medium) (sym c.if-self.false) sent.2)

pub returns-then-self-clause-follows : goal.returns-then-self-clause-follows
returns-then-self-clause-follows g c = comes_itself g.met.M.Medium.follows_itself

pub returns-in_default-clause-follows : goal.returns-in_default-clause-follows
returns-in_default-clause-follows g c = comes_itself g.met.M.Medium.follows_itself
