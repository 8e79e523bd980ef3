use Rattle.redo_log.proofs.{RecordSteps.log_is, TurnCalls.tells_first}
use Rattle.redo_log.proofs.log.Log.turn_first.Goals as goal

pub returns : goal.returns
returns g c =
    tells_first (log_is _ c.self.view_is c.self.invariant) c.requires g.M.Medium.state g.met.M.Medium.sound c.first_call.ensures
