use Rattle.std.proofs.Common.{refl, inl, inr, rules, ⊎_elim, ◌∙◌, ap}
use Rattle.medium.specs.Sim.{state_of}
use Rattle.blocks.specs.StoreValue.{Cached, blocks_of, is_dead}
use Rattle.page.specs.Extents.{LiesWithin}
use Rattle.page.proofs.Lives.{died, unread}
use Rattle.page.proofs.commands.read.Goals as goal

pub returns-in-Ok-read : goal.returns-in-Ok-read
returns-in-Ok-read c = λ book has.
    let within : LiesWithin c.args.extent.now (blocks_of c.args.store.now.cached) = search rules in
    let keeps = c.in-Ok-read.ensures.keeps in record {
      later = book;
      has = record { fits = keeps.turn.fits book has.fits; ours = has.ours; counts = has.counts };
      carries = refl;
      answers = within;
      dies = died c.args.store.now c.read.new.self book book keeps.turn.goes_on has.fits (λ out. out);
      refusals = keeps.turn.goes_on.failures_stay;
      policy = keeps.policy;
      follows = keeps.follows;
      lives = refl;
    }

pub returns : goal.returns
returns c = λ book has.
    let within : LiesWithin c.args.extent.now (blocks_of c.args.store.now.cached) = search rules in
    let keeps = c.in-Err.ensures.keeps in record {
      later = book;
      has = record { fits = keeps.turn.fits book has.fits; ours = has.ours; counts = has.counts };
      carries = inl refl;
      answers = (
        within,
        ⊎_elim (λ dead. inl (ap (λ (s : Cached). is_dead s) keeps.stays ∙ dead)) (λ more. inr (tt, more))
            (unread (state_of c.args.store.now.medium) (state_of c.read.new.self.medium) c.args.store.now.cached _
            c.in-Err.ensures.refuses.err),
      );
      dies = died c.args.store.now c.read.new.self book book keeps.turn.goes_on has.fits (λ out. out);
      refusals = keeps.turn.goes_on.failures_stay;
      policy = keeps.policy;
      follows = keeps.follows;
      lives = refl;
    }
