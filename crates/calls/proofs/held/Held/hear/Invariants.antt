use Rattle.calls.proofs.held.Held.hear.Given as goal

abbrev pub ghost-go_on : goal.ghost-go_on
ghost-go_on g a = g.content

abbrev pub ghost-recover_on : goal.ghost-recover_on
ghost-recover_on g a = g.content
