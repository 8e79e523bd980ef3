use Rattle.disk_machine.proofs.Rooms.{work_played}
use Rattle.disk_machine.proofs.play.make_step.Goals as goal

pub returns : goal.returns
returns c = work_played _ _ c.foresee.ensures c.args.work c.work.ensures.step c.work.ensures.works
