use Rattle.std.proofs.Common.{◌≡◌, ap, subst, sym}
use Rattle.page.specs.Scenes.{Plays}
use Rattle.page.specs.Standing.{running}
use Rattle.page.specs.declared.place.Place.{Place}
use Rattle.page.specs.declared.scene.Scene.{Scene}
use Rattle.page.specs.declared.step.Step.TheVariants.{Command}
use Rattle.page.proofs.scene.Scene.command.Goals as goal

pub returns-in-Runs : goal.returns-in-Runs
returns-in-Runs c = λ book shows.
    let old = c.args.self in
    let holds = rw c.in-Runs.is at shows.holds in
    let s = c.serve.ensures book (record { fits = holds.0; ours = shows.ours; counts = shows.counts }) holds.1 in
    let same : old ≡ running c.in-Runs.store old.life old.goes_ahead =
    ap (λ (p : Place). record { place = p; life = old.life; goes_ahead = old.goes_ahead }) c.in-Runs.is in
    subst (λ (was : Scene). Plays (Command c.args.command.now) c.serve.result.result was book c.serve.result.scene) (sym same)
    (record { later = s.later; shows = s.shows; turns = s.commands })
