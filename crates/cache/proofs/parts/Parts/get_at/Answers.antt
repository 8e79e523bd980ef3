use Rattle.std.proofs.Common.{[], refl, arith, rules}
use Rattle.std.proofs.lemmas.List.{get_or_read}
use Rattle.cache.specs.Index.{places_of, entries_of}
use Rattle.cache.proofs.Columns.{length-numbers, length-places}
use Rattle.cache.proofs.Maps.{found, missing}
use Rattle.cache.proofs.Neighbours.{next_place, same_place}
use Rattle.cache.proofs.Order.{gathered_at}
use Rattle.cache.proofs.parts.Parts.get_at.Goals as goal

pub returns-then-stands_at : goal.returns-then-stands_at
returns-then-stands_at c =
    let parts = c.args.self.now in
    let kept = c.requires.kept in
    let n = length-numbers (entries_of parts.index) in
    let m = length-places (entries_of parts.index) in
    let stands = rw c.entries-entries.ensures at (c.stands_at.ensures.stands c.if-stands_at.true) in
    let at = rw c.entries-entries.ensures at c.row_place.ensures in
    let inside = kept.placed.inside c.args.place.now (omega (arith, stands.inside)) in
    let read =
    get_or_read parts.row.items c.row_place.result c.index.result.now (omega (arith, kept.within, kept.whole_row)) c.index.ensures [] in
    let block = gathered_at (places_of (entries_of parts.index)) parts.row.items c.args.place.now (omega (arith, stands.inside)) in
    let some = rw (block, ← at, ← read) at (found _ _ _ _ kept.paired stands) in
    record {
      gets = record { some = some; size = search rules; none = (λ e. cc, λ e. cc) };
      next = next_place _ _ _ kept.paired.rising stands;
    }

pub returns : goal.returns
returns c =
    let would = rw c.entries-entries.ensures at (c.stands_at.ensures.missing c.if-stands_at.false) in
    record {
      gets = record { some = search rules; size = search rules; none = (λ e. missing _ _ _ _ would, λ e. refl) };
      next = same_place _ _ _ would;
    }
