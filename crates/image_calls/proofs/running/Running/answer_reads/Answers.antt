use Rattle.std.proofs.Common.{refl, sym, ◌∙◌, subst}
use Rattle.image_calls.specs.{Running.IsAtRest, declared.asked.Asked.Asked}
use Rattle.image_calls.proofs.Stepped.{hands_none, answers_on, fewer_calls, asked_same}
use Rattle.image_calls.proofs.running.Running.answer_reads.Goals as goal

pub reads-init : goal.reads-init
reads-init g c = let laws = g.met.T.Machine in record {
  hands = hands_none _ _ _ _ _ _ _ _ _ _ laws.leaves laws.goes_on c.args.self.now;
  run_stays = refl;
  reading_stays = refl;
  asked_stays = refl;
}

pub reads-smaller : goal.reads-smaller
reads-smaller g c = let laws = g.met.T.Machine in
    fewer_calls _ _ _ _ _ _ _ _ _ _ laws.leaves laws.goes_on c.reads.self.run c.reads.self.carried c.answer.new.self
    c.reads-test.ensures

pub reads-preserved : goal.reads-preserved
reads-preserved g c = let laws = g.met.T.Machine in
    let was = c.reads.invariant in
    let same = asked_same _ _ _ _ _ _ _ _ _ _ laws.leaves laws.goes_on c.reads.self.run c.reads.self.carried c.answer.new.self
    c.reads-test.ensures in record {
      hands = answers_on _ _ _ _ _ _ _ _ _ _ laws.leaves laws.goes_on c.args.self.now c.reads.self _ refl
          (subst (λ (a : Asked). IsAtRest a) (sym was.asked_stays) c.requires) c.reads-test.ensures was.hands;
      run_stays = was.run_stays;
      reading_stays = was.reading_stays;
      asked_stays = same ∙ was.asked_stays;
    }
