use Rattle.std.proofs.Common.{◌≡◌}
use Rattle.store_calls.specs.Outbox.{without}
use Rattle.disk_machine.specs.{Plays.medium_of, Refused.KeepsRest}
use Rattle.disk_machine.proofs.run.let_go.Given as goal

-- `_gone` calls left the outbox
abbrev pub invariant-loop-gone : goal.invariant-loop-gone
invariant-loop-gone l = (medium_of l.disk ≡ without l._gone (medium_of l.fn.disk)) × KeepsRest l.fn.disk l.disk
