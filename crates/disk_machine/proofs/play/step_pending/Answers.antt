use Rattle.disk_machine.proofs.Rooms.{pending_played}
use Rattle.disk_machine.proofs.play.step_pending.Goals as goal

pub returns : goal.returns
returns c = pending_played _ _ c.foresee.ensures c.go_on.ensures.step c.go_on.ensures.makes
