use Rattle.std.proofs.Common.{refl}
use Rattle.bot_machine.proofs.LaggingEvents.{token}
use Rattle.bot_machine.proofs.lagging.LaggingDisk.bulk_in.Goals as goal

pub returns : goal.returns
returns g c =
    let d = c.self.inside in
    let told = c.bulk_in.ensures in
    rw (← c.self.view_is) (
      (refl, (λ _. tt), rw c.bulk_in.follows.holds-at-none refl),
      record {
        after = tt;
        answer = told.answer;
        fits = told.fits;
        most = told.most;
        step = token _ (g.met.M.Medium.sound d.disk.unit.store.medium) d.disk d.pending c.self.invariant;
      },
    )
