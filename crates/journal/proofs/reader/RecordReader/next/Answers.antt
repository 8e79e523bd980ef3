use Rattle.std.proofs.Common.{arith}
use Rattle.journal.proofs.SectorsRead.{within}
use Rattle.journal.proofs.reader.RecordReader.next.Goals as goal

pub descriptor_place-requires : goal.descriptor_place-requires
descriptor_place-requires c =
    let b = c.args.self.now.reads.behind_two _ _ c.in-Descriptor2.is in omega (arith, b.more, b.few)

pub returns-in-Descriptor2 : goal.returns-in-Descriptor2
returns-in-Descriptor2 c =
    let s = c.args.self.now in
    let b = s.reads.behind_two _ _ c.in-Descriptor2.is in
    let place = rw c.slot_of-slot.ensures at c.descriptor_place.ensures in
    let ends = within s.sizes s.stamp _ c.slot_of-slot.ensures b.two in
    rw c.in-Descriptor2.is (tt, omega (arith, ends, c.descriptor_place.ensures, b.more, b.few), place)
