use Rattle.calls.proofs.held.Service.begin_behind.Given as goal

abbrev pub ghost-disk_behind : goal.ghost-disk_behind
ghost-disk_behind g a = g.content

abbrev pub ghost-store_behind : goal.ghost-store_behind
ghost-store_behind g a = g.content
