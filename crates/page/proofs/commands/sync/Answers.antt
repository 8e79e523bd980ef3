use Rattle.std.proofs.Common.{refl, inl}
use Rattle.logical_blocks.specs.Book.{promised}
use Rattle.page.proofs.Lives.{died}
use Rattle.page.proofs.commands.sync.Goals as goal

pub returns-in-Ok : goal.returns-in-Ok
returns-in-Ok c = λ book has. let passes = c.in-Ok.ensures.passes in record {
  later = promised book;
  has = record {
    fits = c.in-Ok.ensures.ok book has.fits;
    ours = has.ours;
    counts = record { accepted = has.counts.accepted; promised = has.counts.accepted };
  };
  carries = refl;
  answers = tt;
  dies = died c.args.store.now c.sync.new.self book (promised book) passes.turn.goes_on has.fits (λ out. out);
  refusals = passes.turn.goes_on.failures_stay;
  policy = passes.policy;
  follows = passes.follows;
  lives = refl;
}

pub returns-in-Err : goal.returns-in-Err
returns-in-Err c = λ book has. let passes = c.in-Err.ensures.passes in record {
  later = book;
  has = record { fits = passes.turn.fits book has.fits; ours = has.ours; counts = has.counts };
  carries = inl refl;
  answers = (tt, inl c.in-Err.ensures.answers.answer.1);
  dies = died c.args.store.now c.sync.new.self book book passes.turn.goes_on has.fits (λ out. out);
  refusals = passes.turn.goes_on.failures_stay;
  policy = passes.policy;
  follows = passes.follows;
  lives = refl;
}
