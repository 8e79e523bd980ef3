use Rattle.calls.proofs.held.Held.recover_on.Given as goal

abbrev pub ghost-recover_on : goal.ghost-recover_on
ghost-recover_on g a = g.content
