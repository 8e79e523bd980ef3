use Rattle.std.proofs.{Common.{◌≡◌, ◌+◌, ◌/◌, length, arith}, lemmas.Grind.common_steps}
use Rattle.journal.specs.{Format2.firsts_of, Record.entries_of}
use Rattle.journal.proofs.BatchEntries.{all_firsts_of}
use Rattle.redo_log.proofs.RecordSteps.{put_last}
use Rattle.redo_log.proofs.firsts.keep_firsts.Goals as goal

pub returns-clause-keeps : goal.returns-clause-keeps
returns-clause-keeps c numbers size =
    let old = c.args.kept.now.items in
    let added = c.add_firsts.ensures in
    let place : c.len-place.result ≡ length old = grind (arith, common_steps, c.len-place.ensures) in
    let firsts : c.add_firsts.new.firsts.items ≡ firsts_of (entries_of numbers c.args.bytes.now) =
    all_firsts_of numbers c.args.bytes.now c.add_firsts.new.firsts.items (length c.args.bytes.now / 512) (omega (arith, size))
    added.count (λ i below. let same : 0 + i ≡ i = omega arith in rw same (added.each i below)) in
    rw (c.push_back_reserved.ensures.items, put_last old c.len-place.result c.new.result c.add_firsts.new.firsts place, firsts)
    (grind (arith, common_steps, c.is_stamped.ensures, c.if-not-is_stamped.false))
