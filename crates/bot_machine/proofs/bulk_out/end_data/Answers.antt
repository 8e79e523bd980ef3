use Rattle.std.proofs.{Common.{ℕ, ◌≡◌, ◌≢◌, ◌<◌, ◌≤◌, inl, inr, length, min, refl, sym, arith, ◌∙◌}, lemmas.Bool.cases_lt}
use Rattle.transport_laws.proofs.Packets.{last_packet, other_packet, packets_of-none}
use Rattle.bot_machine.proofs.{Wrappers.nothing_read_for, Packets.{some_bytes, lies_after}}
use Rattle.bot_machine.proofs.{UnitLaws.proceeding_so, OutPackets.{unit_stays, idle, carried, one_taking, passes_wider}}
use Rattle.spec.specs.Packets.{bytes_of}
use Rattle.bot_machine.specs.Refinement.{taking_of}
use Rattle.bot_machine.proofs.bulk_out.end_data.Goals as goal

pub returns-then-packet-size_of_next : goal.returns-then-packet-size_of_next
returns-then-packet-size_of_next g c =
    let d = c.in-DataOut.pending in
    let unit = c.args.unit.now in
    let most : ℕ = bytes_of c.args.bulk.now.size in
    let other : length c.args.packet.now ≡ d.due → most < d.due = λ whole. omega arith in
    record {
      serves = rw (← c.in-DataOut.ensures.value) (idle _ unit _ _ _ _ (g.met.M.Medium.sound unit.store.medium)
          (λ book size. (
            refl,
            inr (inr (record {
              size = let s : length c.args.packet.now ≢ min most d.due = omega arith in s;
              unit = refl;
              after = rw (packets_of-none most (some_bytes c.args.bulk.now.size))
                  at (c.conclude_wrong_size.ensures.line c.args.transfer.now (taking_of d c.args.transfer.now) (omega arith));
            })),
          ))
          (λ book. other_packet most (length c.args.packet.now) d.due _ _ other)
          (λ book size block taken carries.
          let last = carries.last in
          let more = other carries.size in absurd (omega (arith, more, last))));
      passes =
          unit_stays _ _ _ unit c.args.bulk.now c.conclude_wrong_size.new.bulk g.met.M.Medium.follows_itself
          (c.conclude_wrong_size.ensures.phase _ _ (omega arith)) c.conclude_wrong_size.ensures.size;
    }

pub returns : goal.returns
returns g c =
    let d = c.in-DataOut.pending in
    let unit = c.args.unit.now in
    let taking = c.requires.awaits.taking in
    let held = rw (← one_taking d taking.0 (c.in-DataOut.ensures.value ∙ taking.1)) at taking.2 in
    let most : ℕ = bytes_of c.args.bulk.now.size in
    let bytes = rw c.size-size.ensures at c.fill.ensures.bytes in
    let ends = c.requires.ends d (sym c.in-DataOut.ensures.value) in
    let last : d.due ≤ most = elim (cases_lt most d.due) [
      | inl h ↦ ends (omega (arith, h, c.if-packet-size_of_next.false, c.size_of_next.ensures, c.bytes-most.ensures))
      | inr h ↦ h
    ] in
    let whole : length c.args.packet.now ≡ d.due =
    omega (arith, last, c.if-packet-size_of_next.false, c.size_of_next.ensures, c.bytes-most.ensures) in
    let lies = lies_after c.fill.new.buffer d.exchange.case _ held.moment in
    let spared = rw bytes at c.carry_out.ensures.spares in
    record {
      serves = rw (← c.in-DataOut.ensures.value) (carried _ _ unit _ _ _ _ _ d.exchange.command.block.items _
          (λ book fits. proceeding_so _ _ _ _ _ _ _ _ book
          (rw bytes at (c.carry_out.ensures.carried_out c.fill.new.buffer (taking_of d c.args.transfer.now) lies book fits))
          (last_packet most (length c.args.packet.now) d.due _ _ whole last)
          (λ later moves. (refl, inr (inl (record { size = whole; last = last; carried_out = moves })))))
          (λ book size. (
            record { size = whole; last = last; block_is = refl; taken_is = refl },
            (λ block taken carries. (carries.block_is, carries.taken_is)),
          ))
          (spared.0, spared.1, spared.2, spared.3 c.fill.new.buffer lies));
      passes = passes_wider _ _ _ _ _ _ _ _ _ refl (nothing_read_for unit d.exchange.command.block.items held.sends_none)
          c.carry_out.ensures.passes;
    }
