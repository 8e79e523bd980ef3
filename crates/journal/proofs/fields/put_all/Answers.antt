use Rattle.std.proofs.{Common.{◌++◌, [], ◌∷◌, ℕ, List, refl, take, get_or, arith, flat_map, length-append}, lemmas.List.length-take}
use Rattle.std.proofs.lemmas.{List.{take_more, append_assoc}, Grind.flat_map-append}
use Rattle.byteorder.specs.Endian.{little_bytes}
use Rattle.journal.{specs.Sectors.spelling, proofs.SectorNumbers.length_pieces}
use Rattle.journal.proofs.fields.put_all.Goals as goal

pub loop-k-preserved : goal.loop-k-preserved
unfolding spelling
loop-k-preserved c before count is =
    let so_far : List ℕ = before ++ take c.loop-k.k c.args.numbers.now in
    let long = length_pieces (little_bytes 8) 8 so_far (λ i d below. refl) in
    rw (
      take_more c.args.numbers.now c.loop-k.k 0 c.loop-k-test.true,
      ← append_assoc,
      flat_map-append (little_bytes 8) so_far (get_or c.args.numbers.now c.loop-k.k 0 ∷ []),
    )
    (c.append_number.ensures (flat_map (little_bytes 8) so_far)
    (omega (arith, count, long, length-append before (take c.loop-k.k c.args.numbers.now), length-take c.loop-k.k c.args.numbers.now))
    (c.loop-k.invariant before count is))
