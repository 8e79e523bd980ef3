use Rattle.std.proofs.{Common.{◌∙◌, ap, refl, take, drop, length}, lemmas.List.{with_items_is, take_at}}
use Rattle.redo_log.proofs.copies.fill.Goals as goal

pub returns-clause-copied : goal.returns-clause-copied
returns-clause-copied c =
    let bytes = c.args.bytes.now in
    let all = with_items_is c.args.memory.now.bytes c.put.new.to (c.put.auto.to ∙ c.deref_mut.ensures.len) ∙ c.put.ensures in
    ap (take (length bytes)) all ∙ take_at bytes (drop (length bytes) c.deref_mut.result.now) (length bytes) refl
