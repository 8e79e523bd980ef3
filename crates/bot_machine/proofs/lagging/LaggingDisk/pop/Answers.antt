use Rattle.std.proofs.Common.{refl}
use Rattle.bot_machine.proofs.LaggingRuns.{stands_armed}
use Rattle.bot_machine.proofs.lagging.LaggingDisk.pop.Goals as goal

pub returns : goal.returns
returns g c =
    let d = c.self.inside in
    let pops = c.pop.ensures in
    rw (← c.self.view_is) (record {
      armed = pops.armed;
      unchanged = pops.unchanged;
      rearmed = pops.others;
      pending = refl;
      stands = stands_armed d.disk c.pop.new.self pops.others d.pending _ _ pops.fits;
    })
