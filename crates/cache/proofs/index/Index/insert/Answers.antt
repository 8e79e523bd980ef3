use Rattle.std.proofs.Common.{arith}
use Rattle.std.proofs.lemmas.Grind.{elements}
use Rattle.cache.proofs.Columns.{inserted, length_entries}
use Rattle.cache.proofs.index.Index.insert.Goals.{then-at-count, else-at-count}
use Rattle.cache.proofs.index.Index.insert.Goals as goal

pub returns-clause-entries : goal.returns-clause-entries
returns-clause-entries c =
    let old = c.args.self.now in
    let count = length_entries old in
    elim c.if-at-count.branch [
      | then-at-count w ↦
          let moved = w.copy_within.ensures.by_index in
          inserted old c.if-at-count.self c.args.at c.args.entry (omega arith) (omega arith)
          (rw w.self-is (grind (arith, elements))) (rw w.self-is (omega arith))
          (λ k lt. rw w.self-is (grind (arith, elements, moved.0))) (λ k lt h. rw w.self-is (grind (arith, elements, moved.2)))
      | else-at-count w ↦
          let moved = w.copy_within-else-at-count.ensures.by_index in
          inserted old c.if-at-count.self c.args.at c.args.entry (omega arith) (omega arith)
          (rw w.self-is (grind (arith, elements))) (rw w.self-is (omega arith))
          (λ k lt. rw w.self-is (grind (arith, elements, moved.1))) (λ k lt h. rw w.self-is (grind (arith, elements, moved.0)))
    ]
