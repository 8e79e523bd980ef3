use Rattle.std.proofs.{Common.◌≡◌}
use Rattle.store_calls.specs.{Outbox.without}
use Rattle.image_calls.proofs.device.let_go.Given as goal

-- `_gone` calls left the outbox
abbrev pub invariant-loop-gone : goal.invariant-loop-gone
invariant-loop-gone l = l.medium ≡ without l._gone l.fn.medium
