use Rattle.std.proofs.Common.{refl}
use Rattle.page.proofs.Lives.{died}
use Rattle.page.proofs.commands.tick.Goals as goal

pub returns : goal.returns
returns c = λ book has. let passes = c.tick.ensures.passes in record {
  later = book;
  has = record { fits = passes.turn.fits book has.fits; ours = has.ours; counts = has.counts };
  carries = refl;
  answers = tt;
  dies = died c.args.store.now c.tick.new.self book book passes.turn.goes_on has.fits (λ out. out);
  refusals = passes.turn.goes_on.failures_stay;
  policy = passes.policy;
  follows = passes.follows;
  lives = refl;
}
