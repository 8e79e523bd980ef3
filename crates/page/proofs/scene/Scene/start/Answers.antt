use Rattle.std.proofs.Common.{◌≡◌, ap, subst, sym}
use Rattle.page.specs.Scenes.{Plays}
use Rattle.page.specs.Standing.{between}
use Rattle.page.specs.declared.place.Place.{Place}
use Rattle.page.specs.declared.scene.Scene.{Scene}
use Rattle.page.specs.declared.step.Step.TheVariants.{Start}
use Rattle.page.proofs.scene.Scene.start.Goals as goal

pub returns-in-Between : goal.returns-in-Between
returns-in-Between c = λ book shows.
    let old = c.args.self in
    let holds = rw c.in-Between.is at shows.holds in
    let s = c.start_on.ensures book holds.0 shows.ours holds.1 in
    let same : old ≡ between c.in-Between.medium old.life old.goes_ahead =
    ap (λ (p : Place). record { place = p; life = old.life; goes_ahead = old.goes_ahead }) c.in-Between.is in
    subst (λ (was : Scene). Plays Start c.start_on.result.result was book c.start_on.result.scene) (sym same)
    (record { later = s.later; shows = s.shows; turns = s.starts })
