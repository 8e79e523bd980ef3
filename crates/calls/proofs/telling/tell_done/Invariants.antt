use Rattle.calls.proofs.telling.tell_done.Given as goal

abbrev pub ghost-hear : goal.ghost-hear
ghost-hear g a = g.content
