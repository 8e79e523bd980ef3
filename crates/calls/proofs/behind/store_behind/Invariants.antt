use Rattle.calls.proofs.behind.store_behind.Given as goal

abbrev pub ghost-device_holding : goal.ghost-device_holding
ghost-device_holding g a = g.content
