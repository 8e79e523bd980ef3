use Rattle.std.proofs.Common.{arith}
use Rattle.usbdisk.proofs.Lines.{record_lines-step}
use Rattle.usbdisk.proofs.images.text.put_records.Goals as goal

pub loop-count-preserved : goal.loop-count-preserved
loop-count-preserved c = record {
  text_is = record_lines-step c.args.stamp c.loop-count.next c.loop-count.count-index c.args.counts.now c.args.text.now.items
      c.loop-count.text.items c.put_record.new.text.items c.loop-count-test.true c.loop-count.invariant.text_is
      c.loop-count.invariant.next_is c.in_ok-put_record.ensures;
  next_is = omega (arith, c.loop-count.invariant.next_is);
}
