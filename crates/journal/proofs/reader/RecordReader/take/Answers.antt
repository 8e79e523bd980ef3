use Rattle.std.proofs.Common.{◌≡◌, arith}
use Rattle.journal.proofs.SectorsRead.{ended, unended, counts}
use Rattle.journal.proofs.reader.RecordReader.take.Goals as goal

pub returns-in-Commit-clause-learns : goal.returns-in-Commit-clause-learns
returns-in-Commit-clause-learns c =
    let s = c.args.self.now in
    let is = c.in-Commit.is in
    let b = s.reads.behind_one is in
    record {
      knows = λ image reads had known.
          let k = rw is at known in
          let here = rw is at had in
          let ends = rw (c.deref.ensures.0, here) at c.is_ended-is.ensures in
          let good = ended s.sizes image s.stamp s.read b.one k.1 in
          let bad = unended s.sizes image s.stamp s.read b.one k.1 in grind (arith, k.0, good, bad, ends, c.named_if-self.ensures);
      nearer = grind (arith, is, c.named_if-self.ensures);
    }

pub returns-in-Commit2-clause-learns : goal.returns-in-Commit2-clause-learns
returns-in-Commit2-clause-learns c =
    let s = c.args.self.now in
    let is = c.in-Commit2.is in
    let two = s.reads.two is in
    record {
      knows = λ image reads had known.
          let none : reads ≡ 0 = rw is at known in
          rw none (counts s.sizes image s.stamp c.clear.new.self two _ _ _ (rw is at had) c.count_of.ensures c.counted-self.ensures
          c.clear.ensures.numbers c.clear.ensures.firsts);
      nearer = grind (arith, is, c.counted-self.ensures);
    }

pub returns-in-Descriptor2-clause-learns : goal.returns-in-Descriptor2-clause-learns
returns-in-Descriptor2-clause-learns c = rw c.in-Descriptor2.is c.take_names.ensures.2
