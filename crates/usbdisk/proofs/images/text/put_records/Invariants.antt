use Rattle.std.proofs.Common.{◌≡◌, ◌+◌, ◌++◌, take}
use Rattle.usbdisk.specs.images.Showing.{record_lines}
use Rattle.usbdisk.proofs.images.text.put_records.Given as goal

abbrev pub invariant-loop-count : goal.invariant-loop-count
invariant-loop-count l = record {
  text_is : l.text.items ≡ l.initial.text.items ++ record_lines l.stamp (take l.count-index l.counts);
  next_is : l.next ≡ l.stamp + l.count-index;
}
