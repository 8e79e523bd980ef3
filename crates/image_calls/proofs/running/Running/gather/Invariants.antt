use Rattle.std.proofs.Common.{◌≡◌, ◌≤◌, ℕ}
use Rattle.medium.specs.{Writes.sector_of}
use Rattle.image_calls.specs.{Running.GathersOn}
use Rattle.image_calls.proofs.running.Running.gather.Given as goal

abbrev pub invariant-loop-count : goal.invariant-loop-count
invariant-loop-count g l = let bound = g.T.Machine in record {
  hands : GathersOn bound.fits bound.holds bound.may bound.reads bound.ends bound.cost bound.exact bound.due bound.after bound.gone
      l.first 1 l.fn.buffer l.fn.self l.count l.buffer l.self;
  asked_stays : l.self.carried.asked ≡ l.fn.self.carried.asked;
  behind : (i : ℕ) → l.count ≤ i → sector_of l.buffer i ≡ sector_of l.fn.buffer i;
}
