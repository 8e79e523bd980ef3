use Rattle.std.proofs.Common.{Ok, refl, subst}
use Rattle.page.specs.Books.{StartsOn}
use Rattle.page.specs.Scripts.{formatted}
use Rattle.page.specs.Standing.{between, standing}
use Rattle.page.specs.declared.life.Life.{Life}
use Rattle.page.proofs.Lives.{formatted_leaves}
use Rattle.page.proofs.play.start_first.Goals as goal

pub returns-in-Ok : goal.returns-in-Ok
returns-in-Ok c = λ shape made.
    let s = c.start_on-scene.ensures (formatted shape.blocks) (formatted_leaves shape c.args.medium made) refl made.flushed in
    record {
      book = s.later;
      shows = s.shows;
      starts = record {
        medium = c.args.medium;
        made = made;
        starts = subst (λ (l : Life). StartsOn (Ok tt) c.args.medium
            (standing (between c.args.medium l c.args.goes_ahead) (formatted shape.blocks))
            (standing c.start_on-scene.result.scene s.later))
            c.new.ensures (rw c.in-Ok.is at s.starts);
      };
    }
