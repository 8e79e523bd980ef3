use Rattle.std.proofs.Common.{◌≡◌, ◌∙◌, ◌*◌, ℕ, inr, ap, sym, arith}
use Rattle.bot_machine.specs.PacketRuns.{packet_of}
use Rattle.disk_machine.{specs.{Packets.TakesOut, Transfers.HasPacket}, proofs.PacketLaws.{size_stays, next_taken, taken_more, refused}}
use Rattle.disk_machine.{specs.Seen.Prompt, proofs.machine.DiskMachine.take_transfer.Goals.After-take_packet-code}
use Rattle.disk_machine.proofs.machine.DiskMachine.take_transfer.Goals as goal

size : (c : After-take_packet-code) → c.packet_size-most.result ≡ c.args.self.now.disk.disk.line.packet_size
size c = c.packet_size-most.ensures.is ∙ ap (λ (d : Prompt). d.line.packet_size) c.disk.ensures

-- the packet of this number is taken
taken : (c : After-take_packet-code) → TakesOut c.loop-number.self
    (packet_of c.args.self.now.disk.disk.line.packet_size c.args.bytes.now c.loop-number.number)
    c.take_packet-code.new.self c.take_packet-code.result
taken c = next_taken _ _ _ _ _ _ _ _ (size c) c.min-size.ensures (record { one = c.take_packet-code.ensures })

-- and it is there
has : (c : After-take_packet-code) → HasPacket c.args.self.now.disk.disk.line.packet_size c.args.bytes.now c.loop-number.number
has c = rw (sym (size c)) ((c.count_of-number-end.ensures c.loop-number.number).0 c.loop-number-test.true)

pub loop-number-preserved : goal.loop-number-preserved
loop-number-preserved c =
    let at = (goal.at.loop-number-preserved c).After-take_packet-code in record {
      first = taken_more _ _ _ _ _ _ _ c.loop-number.invariant.first (has at) (omega (arith, c.if-code-ne-ACK.false)) (taken at);
      packets_stay = size_stays _ _ _ _ c.take_packet-code.ensures ∙ c.loop-number.invariant.packets_stay;
    }

pub returns-then-code-ne-ACK : goal.returns-then-code-ne-ACK
returns-then-code-ne-ACK c =
    let at = (goal.at.returns-then-code-ne-ACK c).After-take_packet-code in record {
      count = c.loop-number.number;
      mid = c.loop-number.self;
      first = c.loop-number.invariant.first;
      ends = inr (
        has at,
        taken at,
        ap (λ (m : ℕ). c.loop-number.number * m) (size at),
        refused _ _ _ _ _ _ c.loop-number.invariant.packets_stay (taken at) c.if-code-ne-ACK.true,
      );
    }
