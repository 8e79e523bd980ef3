use Rattle.std.proofs.Common.{◌∙◌, ap, refl, sym, subst}
use Rattle.blocks.specs.StoreValue.{Cached, is_dead}
use Rattle.page.specs.Books.{IsArmed}
use Rattle.page.specs.Scenes.{HoldsAt}
use Rattle.page.specs.declared.place.Place.{Place}
use Rattle.page.specs.declared.place.Place.TheVariants.{Runs, Between}
use Rattle.medium.specs.Sim.{Sim}
use Rattle.page.proofs.scene.fused.Goals as goal

pub returns-in-Runs-clause-holds : goal.returns-in-Runs-clause-holds
returns-in-Runs-clause-holds c = λ book holds.
    let was = rw c.in-Runs.is at holds in
    (c.fuse.ensures.untouched.turn.fits book was.0, ap (λ (s : Cached). is_dead s) c.fuse.ensures.untouched.cached ∙ was.1)

pub returns-in-Runs-clause-armed : goal.returns-in-Runs-clause-armed
returns-in-Runs-clause-armed c = subst (λ (p : Place). IsArmed c.args.writes p (Runs c.fuse.new.self)) (sym c.in-Runs.is)
    (c.fuse.new.self, refl, c.fuse.ensures.fused, c.fuse.ensures.untouched.cached, c.fuse.ensures.untouched.policy)

pub returns-in-Between-clause-holds : goal.returns-in-Between-clause-holds
returns-in-Between-clause-holds c = λ book holds.
    subst (λ (m : Sim). HoldsAt (Between m) book) (sym c.fuse-in-Between.ensures.fused)
    (rw c.in-Between.is at holds)

pub returns-in-Between-clause-armed : goal.returns-in-Between-clause-armed
returns-in-Between-clause-armed c = subst (λ (p : Place). IsArmed c.args.writes p (Between c.fuse-in-Between.new.self))
    (sym c.in-Between.is) (c.fuse-in-Between.new.self, refl, c.fuse-in-Between.ensures.fused)
