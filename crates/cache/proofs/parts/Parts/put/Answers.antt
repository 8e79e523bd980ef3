use Rattle.std.proofs.Common.{◌≡◌, ◌/◌, ◌<◌, length, ap, refl, arith, rules}
use Rattle.cache.specs.Index.{numbers_of, places_of, entries_of}
use Rattle.cache.specs.Places.{WouldStandAt}
use Rattle.cache.proofs.Columns.{length-numbers, length-places, numbers-insert, places-insert}
use Rattle.cache.proofs.Kept.{becomes}
use Rattle.cache.proofs.Maps.{absent_one, replaced, inserted, stands-insert}
use Rattle.cache.proofs.Neighbours.{next_place}
use Rattle.cache.proofs.Order.{gathered_set, gathered_insert, ArePlaces-insert}
use Rattle.cache.proofs.parts.Parts.put.Goals.{Else-stands_at}
use Rattle.cache.proofs.parts.Parts.put.Goals as goal

-- the number would stand at its place, and a block more has room
would : (c : Else-stands_at)
    → WouldStandAt (numbers_of (entries_of c.args.self.now.index)) c.args.number c.args.place
    × (length (entries_of c.args.self.now.index) < c.args.self.now.room)
would c =
    let missing = rw (c.entries-entries.ensures, c.from.ensures) at (c.stands_at.ensures.missing c.if-stands_at.false) in
    (missing, omega (arith, absent_one _ _ _ missing, length-numbers (entries_of c.args.self.now.index), c.requires.can.room))

pub insert-requires-clause-room : goal.insert-requires-clause-room
insert-requires-clause-room c =
    omega (arith, (would (goal.at.insert-requires-clause-room c).Else-stands_at).1, c.requires.kept.centred.wide)

pub index_mut-requires-else-stands_at : goal.index_mut-requires-else-stands_at
index_mut-requires-else-stands_at c =
    let room = (would (goal.at.index_mut-requires-else-stands_at c).Else-stands_at).1 in
    omega (arith, room, ap length c.entries-entries.ensures, c.requires.kept.whole_row)

pub returns-then-stands_at-clause-put : goal.returns-then-stands_at-clause-put
returns-then-stands_at-clause-put c =
    let old = c.args.self.now in
    let kept = c.requires.kept in
    let n = length-numbers (entries_of old.index) in
    let m = length-places (entries_of old.index) in
    let stands = rw (c.entries-entries.ensures, c.from.ensures) at (c.stands_at.ensures.stands c.if-stands_at.true) in
    let at = rw c.entries-entries.ensures at c.row_place-at.ensures in
    let placed = gathered_set (places_of (entries_of old.index)) old.row.items c.args.place c.row_place-at.result c.args.block.now
    kept.placed (omega (arith, kept.within, kept.whole_row)) (omega (arith, stands.inside)) at in
    becomes old _ c.args.number c.args.block.now kept c.requires.can.room refl refl (search rules) kept.centred kept.placed
    (rw (c.copy_from_slice.ensures.after, placed) (replaced _ _ _ _ _ kept.paired stands c.requires.can.size))

pub returns-else-stands_at-clause-put : goal.returns-else-stands_at-clause-put
returns-else-stands_at-clause-put c =
    let old = c.args.self.now in
    let kept = c.requires.kept in
    let entries = entries_of old.index in
    let n = length-numbers entries in
    let m = length-places entries in
    let w = would (goal.at.returns-else-stands_at-clause-put c).Else-stands_at in
    let after = c.copy_from_slice-else-stands_at.ensures.after in
    let half : length old.index.cells.items / 2 ≡ old.room = omega (arith, kept.centred.wide) in
    let placed = gathered_insert (places_of entries) old.row.items c.args.place (length entries) c.args.block.now kept.placed
    (omega arith) (omega (arith, kept.whole_row)) (omega (arith, w.0.inside)) in
    becomes old _ c.args.number c.args.block.now kept c.requires.can.room refl refl (search rules) (rw half at c.insert.ensures.centred)
    (rw (c.insert.ensures.entries, c.entries-entries.ensures, places-insert)
    (ArePlaces-insert _ _ _ kept.placed (omega arith) (omega (arith, w.0.inside))))
    (rw (c.insert.ensures.entries, c.entries-entries.ensures, places-insert, numbers-insert, after, placed)
    (inserted _ _ _ _ _ kept.paired w.0 c.requires.can.size))

pub returns-else-stands_at-clause-next : goal.returns-else-stands_at-clause-next
returns-else-stands_at-clause-next c =
    let w = would (goal.at.returns-else-stands_at-clause-next c).Else-stands_at in
    let put = inserted _ _ _ _ c.args.block.now c.requires.kept.paired w.0 c.requires.can.size in
    rw (c.insert.ensures.entries, numbers-insert) (next_place _ _ _ put.paired.rising (stands-insert _ _ _ w.0))
