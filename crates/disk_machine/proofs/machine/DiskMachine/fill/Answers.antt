use Rattle.std.proofs.Common.{◌∙◌, ◌*◌, ◌+◌, ◌-◌, ◌≤◌, ℕ, length, ap, sym, subst, arith}
use Rattle.disk_machine.{specs.{Seen.Prompt, Transfers.SendsFirst}, proofs.PacketLaws.{token_stays, has_place, sent_more}}
use borrow.Rule.Slice.PartMut.{put_mid}
use Rattle.disk_machine.proofs.machine.DiskMachine.fill.Goals as goal

pub loop-count-preserved : goal.loop-count-preserved
loop-count-preserved c =
    let count = c.loop-count.count in
    let most = c.packet_size-most.result in
    let is = c.packet_size-most.ensures.is ∙ ap (λ (d : Prompt). d.line.packet_size) c.disk.ensures in
    let room = c.loop-count.room in
    let told = c.token-told in
    let fits : count * most + most ≤ length room =
    omega (arith, has_place most count (length c.args.room.now) c.loop-count-test.true, c.loop-count.auto.room) in
    let first = subst (λ (m : ℕ). SendsFirst m count c.args.self.now c.args.room.now c.loop-count.self room) (sym is)
    c.loop-count.invariant.first in
    record {
      first = subst (λ (m : ℕ). SendsFirst m (count + 1) c.args.self.now c.args.room.now told.new.self
          (put_mid (count * most) (length room - count * most) room told.new.to)) is
          (sent_more most count told.new.size told.result c.args.room.now room told.new.to c.args.self.now c.loop-count.self told.new.self
          first fits
          (omega (arith, told.ensures.1, c.if-size-most.false, c.loop-count.invariant.packets_stay, is))
          c.if-told-ne-ACK.false told.ensures.0);
      packets_stay = token_stays _ _ _ _ _ _ told.ensures.0 ∙ c.loop-count.invariant.packets_stay;
    }
