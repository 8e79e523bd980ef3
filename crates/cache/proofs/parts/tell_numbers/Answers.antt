use Rattle.std.proofs.Common.{arith, rules}
use Rattle.std.proofs.lemmas.Grind.{common_steps}
use Rattle.std.proofs.lemmas.List.{map_more}
use Rattle.cache.specs.Index.{no_entry}
use Rattle.cache.specs.declared.entry.Entry.{Entry}
use Rattle.cache.proofs.parts.tell_numbers.Goals as goal

pub loop-i-preserved : goal.loop-i-preserved
loop-i-preserved c =
    let more = map_more (λ (e : Entry). e.number) c.args.entries.now c.loop-i.i no_entry c.loop-i-test.true in
    record { told = grind (arith, common_steps, more); capacity = search rules }
