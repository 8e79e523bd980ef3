use Rattle.std.proofs.Common.{refl}
use Rattle.page.proofs.scene.Scene.arm.Goals as goal

pub returns : goal.returns
returns c = λ book shows. record {
  later = book;
  shows = record { holds = c.fused-place.ensures.holds book shows.holds; ours = shows.ours; counts = shows.counts };
  turns = (refl, refl, c.fused-place.ensures.armed);
}
