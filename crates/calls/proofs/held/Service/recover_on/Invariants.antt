use Rattle.calls.proofs.held.Service.recover_on.Given as goal

abbrev pub ghost-begin_behind : goal.ghost-begin_behind
ghost-begin_behind g a = g.content
