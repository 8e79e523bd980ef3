use Rattle.redo_log.proofs.{RecordSteps.log_is, TurnCalls.tells_second}
use Rattle.redo_log.proofs.log.Log.turn_second.Goals as goal

pub returns : goal.returns
returns g c =
    tells_second (log_is _ c.self.view_is c.self.invariant) c.requires g.M.Medium.state g.met.M.Medium.sound _ c.second_call.ensures
