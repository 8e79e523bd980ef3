use Rattle.std.proofs.Common.{ℕ, ◌≡◌, ◌<◌, ◌-◌, ◌++◌, inl, length, take, refl, arith, rules, ap}
use Rattle.spec.specs.{Cases.size_of_way, Exchange.taking, Packets.bytes_of}
use Rattle.bot_machine.specs.{Refinement.line_with}
use Rattle.bot_machine.proofs.LaggingPackets.{acts_alone}
use Rattle.bot_machine.proofs.pending.data_packet.Goals as goal

pub returns-then-packet-most : goal.returns-then-packet-most
returns-then-packet-most g c =
    let d = c.in-DataOut.taking in
    let unit = c.args.unit.now in
    let bulk = c.args.bulk.now in
    let now = c.take_more.new.pending in
    let most : ℕ = bytes_of bulk.size in
    let more : most < d.due = omega (arith, c.if-taking-most.true, c.bytes-most.ensures) in
    let after : taking now.exchange.case now.exchange.command now.exchange.intended (take now.filled c.take_more.new.taken) now.due
    ≡ taking d.exchange.case d.exchange.command d.exchange.intended
    (take (size_of_way d.exchange.intended) (take d.filled c.args.transfer.now ++ c.args.packet.now)) (d.due - most) =
    rw (c.take_more.ensures.exchange, c.take_more.ensures.bytes, c.take_more.ensures.due, c.bytes-most.ensures) refl in
    acts_alone g.met.M.Medium.follows_itself g.met.M.Medium.sound unit bulk _ c.args.transfer.now c.take_more.new.taken c.args.packet.now
    (λ book size. rw c.in-DataOut.is (
      refl,
      inl (record {
        size = let s : length c.args.packet.now ≡ most = omega (arith, c.if-packet-most.true, c.bytes-most.ensures) in s;
        more = more;
        unit = refl;
        after = ap (λ left. line_with bulk left) after;
      }),
    ))
    (search rules) refl (omega arith)
