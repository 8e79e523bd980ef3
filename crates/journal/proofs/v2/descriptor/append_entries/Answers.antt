use Rattle.std.proofs.Common.{◌++◌, ℕ, List, get_or, take, arith, length-append, zip, flat_map, take_all}
use Rattle.byteorder.specs.Endian.{little_bytes}
use Rattle.journal.{specs.Format2.entry_bytes, proofs.SlotTwo.{length_so_far, length_zipped, entries_more}}
use Rattle.journal.proofs.v2.descriptor.append_entries.Goals as goal

pub loop-e-preserved : goal.loop-e-preserved
loop-e-preserved c before count is =
    let so_far : List ℕ = before ++ flat_map entry_bytes (take c.loop-e.e (zip c.args.numbers.now c.args.firsts.now)) in
    let number : List ℕ = little_bytes 8 (get_or c.args.numbers.now c.loop-e.e 0) in
    let long = length_so_far _ _ c.requires.each c.requires.sized before c.loop-e.e count (omega arith) in
    rw (← (entries_more _ _ c.requires.each c.requires.sized before c.loop-e.e c.loop-e-test.true))
    (c.append.ensures (so_far ++ number) (omega (arith, long, length-append so_far number))
    (c.append_number.ensures so_far long (c.loop-e.invariant before count is)))

pub returns : goal.returns
returns c before count is =
    let long = length_zipped c.args.numbers.now c.args.firsts.now c.requires.each in
    let whole = take_all c.loop-e.e (zip c.args.numbers.now c.args.firsts.now) (omega (arith, long)) in
    rw whole at (c.loop-e.invariant before count is)
