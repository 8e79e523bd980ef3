use Rattle.std.proofs.Common.{◌≡◌, true, false, refl, inl, inr, rules, subst, sym}
use Rattle.medium.specs.Sim.{Sim, ComesAfter}
use Rattle.blocks.specs.StoreValue.{is_dead}
use Rattle.page.proofs.Lives.{may_carry}
use Rattle.page.specs.Causes.{HasDied}
use Rattle.page.proofs.scene.serve.Goals as goal

pub returns-then-is_dead : goal.returns-then-is_dead
returns-then-is_dead c = λ book has live.
    let dead : is_dead c.carry_out-result.new.store.cached ≡ true = search rules in
    let k = c.carry_out-result.ensures book has in
    record {
      later = k.later;
      shows = record { holds = c.stop.ensures.leaves k.later k.has.fits k.has.ours; ours = k.has.ours; counts = k.has.counts };
      commands = record {
        ends = inr (record {
          left = c.stop.result;
          place = refl;
          lost = refl;
          cause = subst (λ (m : Sim). HasDied c.args.store.medium m k.later) (sym c.stop.ensures.is) (k.dies live dead);
          carries = may_carry _ _ book k.later k.carries;
        });
        follows = subst (λ (m : Sim). ComesAfter c.args.store.medium m) (sym c.stop.ensures.is) k.follows;
        lives = k.lives;
        policy = refl;
      };
    }

pub returns : goal.returns
returns c = λ book has was.
    let live : is_dead c.carry_out-result.new.store.cached ≡ false = search rules in
    let k = c.carry_out-result.ensures book has in
    record {
      later = k.later;
      shows = record { holds = (k.has.fits, live); ours = k.has.ours; counts = k.has.counts };
      commands = record {
        ends = inl (record {
          after = c.carry_out-result.new.store;
          place = refl;
          policy = k.policy;
          answers = k.answers;
          carries = k.carries;
        });
        follows = k.follows;
        lives = k.lives;
        policy = refl;
      };
    }
