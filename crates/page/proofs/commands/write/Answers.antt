use Rattle.std.proofs.Common.{refl, inl, rules}
use Rattle.logical_blocks.specs.Book.{with_write}
use Rattle.blocks.specs.StoreValue.{blocks_of}
use Rattle.page.proofs.Lives.{counts_one, died, out_with}
use Rattle.page.specs.Extents.{LiesWithin, filled}
use Rattle.page.proofs.commands.write.Goals as goal

pub returns-in-Ok-write : goal.returns-in-Ok-write
returns-in-Ok-write c = λ book has.
    let within : LiesWithin c.args.extent.now (blocks_of c.args.store.now.cached) = search rules in
    let passes = c.in-Ok-write.ensures.passes in record {
      later = with_write book (filled c.args.extent.now);
      has = record {
        fits = rw (c.deref.ensures.value, c.in-Ok.ensures.items_if_clones_equal (λ y same. same)) at (passes.turn.fits book has.fits);
        ours = has.ours;
        counts = record {
          accepted = counts_one _ _ book.writes (filled c.args.extent.now) has.counts.accepted c.saturating_add-life.ensures;
          promised = has.counts.promised;
        };
      };
      carries = refl;
      answers = within;
      dies = died c.args.store.now c.write.new.self book (with_write book (filled c.args.extent.now)) passes.turn.goes_on has.fits
          (out_with book (filled c.args.extent.now));
      refusals = passes.turn.goes_on.failures_stay;
      policy = passes.policy;
      follows = passes.follows;
      lives = refl;
    }

pub returns : goal.returns
returns c = λ book has.
    let within : LiesWithin c.args.extent.now (blocks_of c.args.store.now.cached) = search rules in
    let passes = c.in-Err.ensures.passes in record {
      later = book;
      has = record { fits = passes.turn.fits book has.fits; ours = has.ours; counts = has.counts };
      carries = inl refl;
      answers = (within, inl c.in-Err.ensures.answers.answer.1);
      dies = died c.args.store.now c.write.new.self book book passes.turn.goes_on has.fits (λ out. out);
      refusals = passes.turn.goes_on.failures_stay;
      policy = passes.policy;
      follows = passes.follows;
      lives = refl;
    }
