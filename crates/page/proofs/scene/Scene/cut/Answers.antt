use Rattle.std.proofs.Common.{refl, subst}
use Rattle.medium.specs.Sim.{Sim, IsCut}
use Rattle.medium.specs.Writes.{keeps}
use Rattle.medium.specs.declared.kept.Kept.TheVariants.{Mask}
use Rattle.page.proofs.Lives.{after_cut}
use Rattle.page.proofs.scene.Scene.cut.Goals as goal

pub returns : goal.returns
returns c = λ book shows.
    let leaves = c.into_medium-medium.ensures.leaves book shows.holds shows.ours in
    record {
      later = book;
      shows = record {
        holds = (
          after_cut c.into_medium-medium.result c.cut.new.self book leaves c.cut.ensures.allowed c.cut.ensures.flushed c.cut.ensures.size,
          c.cut.ensures.flushed,
        );
        ours = shows.ours;
        counts = shows.counts;
      };
      turns = (
        refl,
        refl,
        (
          c.cut.new.self,
          refl,
          subst (λ (m : Sim). IsCut (keeps (Mask c.args.mask)) m c.cut.new.self) c.into_medium-medium.ensures.is c.cut.ensures.cut,
        ),
      );
    }
