use Rattle.std.proofs.Common.{◌≡◌, length, refl, arith}
use Rattle.cache.specs.Index.{places_of, entries_of}
use Rattle.cache.proofs.Columns.{length-numbers, length-places}
use Rattle.cache.proofs.Kept.{well_formed}
use Rattle.cache.proofs.Order.{gathered_in_order}
use Rattle.cache.proofs.frozen.Frozen.bytes.Goals as goal

pub returns : goal.returns
returns c =
    let parts = c.self.inside.parts in
    let kept = c.self.invariant.kept in
    let count : c.len.result ≡ length (places_of (entries_of parts.index)) =
    grind (arith, length-places, length-numbers, c.len.ensures, c.self.invariant.told) in
    let order = gathered_in_order (places_of (entries_of parts.index)) parts.row.items c.self.invariant.in_order
    (grind (arith, length-places, length-numbers, kept)) in
    record {
      value = rw (← c.self.view_is, c.as_flattened.ensures.value, count, c.deref.ensures.value, order) refl;
      well_formed = rw (← c.self.view_is) (well_formed parts kept);
    }
