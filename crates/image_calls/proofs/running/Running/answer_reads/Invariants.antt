use Rattle.std.proofs.Common.{◌≡◌, []}
use Rattle.medium.specs.{Tally.of_all}
use Rattle.image_calls.specs.{Running.Hands}
use Rattle.image_calls.proofs.running.Running.answer_reads.Given as goal

abbrev pub invariant-reads : goal.invariant-reads
invariant-reads g l = let bound = g.T.Machine in record {
  hands : Hands bound.fits bound.holds bound.may bound.reads bound.ends bound.cost bound.exact bound.due bound.after bound.gone []
      l.initial.self l.self;
  run_stays : l.self.run ≡ l.initial.self.run;
  reading_stays : l.self.reading ≡ l.initial.self.reading;
  asked_stays : l.self.carried.asked ≡ l.initial.self.carried.asked;
}

abbrev pub decreases-reads : goal.decreases-reads
decreases-reads g l = of_all (g.T.Machine.cost l.self.carried.machine)
