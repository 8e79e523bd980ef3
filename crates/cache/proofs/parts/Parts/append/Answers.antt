use Rattle.std.proofs.Common.{refl, ◌∙◌, rules}
use Rattle.std.proofs.lemmas.List.{with_items_is}
use Rattle.cache.proofs.Behind.{appends}
use Rattle.cache.proofs.parts.Parts.append.Goals as goal

pub returns : goal.returns
returns c =
    let old = c.args.self.now in
    let cells_are = with_items_is old.index.cells c.write_entries.new.cells (c.write_entries.auto.cells ∙ c.deref_mut-2.ensures.len) in
    let row_is = with_items_is old.row c.write_blocks.new.row (c.write_blocks.auto.row ∙ c.deref_mut.ensures.len) in
    let entries = rw (c.deref_mut-2.ensures.value, c.entries-place.ensures) at c.write_entries.ensures in
    let blocks = rw (c.deref_mut.ensures.value, c.entries-place.ensures) at c.write_blocks.ensures in
    appends old _ c.args.number c.args.bytes.now c.requires (rw cells_are entries) (rw row_is blocks) refl refl
    (search rules) (search rules) refl refl
