use Rattle.std.proofs.Common.{ℕ, ◌≡◌, ◌<◌, ◌-◌, ◌++◌, inl, length, take, refl, sym, arith, ap, ◌∙◌}
use Rattle.spec.specs.{Cases.size_of_way, Exchange.taking, Packets.bytes_of}
use Rattle.bot_machine.specs.{declared.bulk_state.Phase.Phase, declared.bulk_state.Phase.TheVariants.DataOut, Refinement.line_with}
use Rattle.transport_laws.proofs.Packets.{other_packet}
use Rattle.bot_machine.proofs.OutPackets.{idle}
use Rattle.bot_machine.proofs.bulk_out.take_data.Goals.{else-pending-most-via-then-pending-most+else-packet-most}
use Rattle.bot_machine.proofs.bulk_out.take_data.Goals.{else-pending-most-via-else-pending-most}
use Rattle.bot_machine.proofs.bulk_out.take_data.Goals as goal

pub returns-then-packet-most-clause-serves : goal.returns-then-packet-most-clause-serves
returns-then-packet-most-clause-serves g c =
    let d = c.in-DataOut.pending in
    let unit = c.args.unit.now in
    let bulk = c.args.bulk.now in
    let now = c.take_more.new.pending in
    let most : ℕ = bytes_of bulk.size in
    let more : most < d.due = omega (arith, c.if-pending-most.true, c.bytes-most.ensures) in
    let after : taking now.exchange.case now.exchange.command now.exchange.intended (take now.filled c.take_more.new.taken) now.due
    ≡ taking d.exchange.case d.exchange.command d.exchange.intended
    (take (size_of_way d.exchange.intended) (take d.filled c.args.transfer.now ++ c.args.packet.now)) (d.due - most) =
    rw (c.take_more.ensures.exchange, c.take_more.ensures.bytes, c.take_more.ensures.due, c.bytes-most.ensures) refl in
    rw c.in-DataOut.is (idle _ unit _ _ _ _ (g.met.M.Medium.sound unit.store.medium)
    (λ book size. (
      refl,
      inl (record {
        size = let s : length c.args.packet.now ≡ most = omega (arith, c.if-packet-most.true, c.bytes-most.ensures) in s;
        more = more;
        unit = refl;
        after = ap (λ left. line_with bulk left) after;
      }),
    ))
    (λ book. other_packet most (length c.args.packet.now) d.due _ _ (λ whole. more))
    (λ book size block taken carries. let last = carries.last in absurd (omega (arith, more, last))))

pub returns-clause-serves : goal.returns-clause-serves
returns-clause-serves g c =
    let bulk = c.args.bulk.now in
    let with : c.else-pending-most.bulk ≡ record bulk { phase = DataOut c.in-DataOut.pending } =
    elim c.else-pending-most.branch [
      | else-pending-most-via-then-pending-most+else-packet-most w ↦ w.bulk-is
      | else-pending-most-via-else-pending-most w ↦ w.bulk-is
    ] in
    let same : c.else-pending-most.bulk ≡ bulk = with ∙ ap (λ (p : Phase). record bulk { phase = p }) (sym c.in-DataOut.is) in
    rw same at c.end_data.ensures.serves
