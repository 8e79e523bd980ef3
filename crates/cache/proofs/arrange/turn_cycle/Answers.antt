use Rattle.std.proofs.Common.{arith, rules}
use Rattle.std.proofs.lemmas.Bool.Decides.{nat_tests}
use Rattle.cache.proofs.Columns.{length-places}
use Rattle.cache.proofs.Order.{hole_among, next_among, goes_on, one_more}
use Rattle.cache.proofs.arrange.turn_cycle.Goals as goal

pub row_place-next-requires : goal.row_place-next-requires
row_place-next-requires c =
    omega (arith, hole_among c.loop-hole.invariant.turning c.requires.inside, length-places c.loop-hole.entries)

pub move_block-requires-clause-to : goal.move_block-requires-clause-to
move_block-requires-clause-to c =
    let turning = c.loop-hole.invariant.turning in omega (arith, hole_among turning c.requires.inside, c.requires.places_of.room)

pub move_block-requires-clause-from : goal.move_block-requires-clause-from
move_block-requires-clause-from c =
    let turning = c.loop-hole.invariant.turning in
    let next = next_among turning c.requires.inside _ c.requires.places_of.room c.loop-hole-test.true c.row_place-next.ensures in
    omega (arith, c.requires.places_of.room)

pub set_row_place-requires : goal.set_row_place-requires
set_row_place-requires c =
    omega (arith, hole_among c.loop-hole.invariant.turning c.requires.inside, length-places c.loop-hole.entries)

pub loop-hole-smaller : goal.loop-hole-smaller
loop-hole-smaller c =
    let turning = c.loop-hole.invariant.turning in
    let more = one_more turning c.requires.inside _ c.requires.places_of.room c.loop-hole-test.true c.row_place-next.ensures in
    rw c.set_row_place.ensures.places (grind (arith, nat_tests))

pub loop-hole-preserved : goal.loop-hole-preserved
loop-hole-preserved c =
    let turning = c.loop-hole.invariant.turning in
    let more = one_more turning c.requires.inside _ c.requires.places_of.room c.loop-hole-test.true c.row_place-next.ensures in
    record {
      numbers = search rules;
      turning = rw (c.move_block.ensures, c.set_row_place.ensures.places)
          (goes_on turning c.requires.inside _ c.requires.places_of.room c.loop-hole-test.true c.row_place-next.ensures);
      moved = rw c.set_row_place.ensures.places (grind (arith, nat_tests));
    }
