use Rattle.redo_log.proofs.log.Log.first_call.Goals as goal

pub returns-then-self-count-2 : goal.returns-then-self-count-2
returns-then-self-count-2 c = c.copy_next.ensures _
