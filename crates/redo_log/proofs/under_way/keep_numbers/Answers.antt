use Rattle.std.proofs.{Common.{◌≡◌, [], length, arith, refl}, lemmas.Grind.common_steps}
use Rattle.redo_log.proofs.RecordSteps.{put_last}
use Rattle.redo_log.proofs.under_way.keep_numbers.Goals as goal

pub returns-clause-keeps : goal.returns-clause-keeps
returns-clause-keeps c =
    let old = c.args.waiting.now.items in
    let last = c.try_extend_from_slice.new.self in
    let place : c.len-place.result ≡ length old = grind (arith, common_steps, c.len-place.ensures) in
    let empty : c.index_mut.result.now.items ≡ [] =
    grind (arith, common_steps, c.index_mut.ensures.value, c.push_back_reserved.ensures.items, place, c.new.ensures) in
    let full : last.items ≡ c.args.numbers.now = grind
    (arith, common_steps, c.try_extend_from_slice.ensures.variant, c.try_extend_from_slice.ensures.ok, empty, c.requires.few) in
    rw (c.push_back_reserved.ensures.items, put_last old c.len-place.result c.new.result last place, full) refl
