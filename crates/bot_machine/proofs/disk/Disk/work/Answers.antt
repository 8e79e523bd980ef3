use Rattle.std.proofs.Common.{refl}
use Rattle.bot_machine.proofs.OutPackets.{ticked, still_in_phase}
use Rattle.bot_machine.proofs.disk.Disk.work.Goals as goal

pub returns : goal.returns
returns g c = rw (← c.self.view_is) (record {
  step = ticked _ _ _ _ _ c.work.ensures.ticks refl;
  follows = c.work.ensures.follows;
})

pub invariant_of-self : goal.invariant_of-self
invariant_of-self g c =
    let ticks = c.work.ensures.ticks in
    let d = c.self.inside in
    rw ticks.limit_stays (record {
      room = c.self.invariant.room;
      phase_holds = still_in_phase _ _ _ ticks.steady ticks.steady_in d.bulk.phase c.self.invariant.phase_holds;
    })
