use Rattle.calls.proofs.held.ImageWork.begin.Given as goal

abbrev pub ghost-begin_format : goal.ghost-begin_format
ghost-begin_format g a = g.content

abbrev pub ghost-begin_log : goal.ghost-begin_log
ghost-begin_log g a = g.content

abbrev pub ghost-begin_migration : goal.ghost-begin_migration
ghost-begin_migration g a = g.content
