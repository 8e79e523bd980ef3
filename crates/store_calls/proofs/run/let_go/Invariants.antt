use Rattle.std.proofs.{Common.◌≡◌}
use Rattle.blocks.specs.{Passing.IsUntouched}
use Rattle.window.specs.{Window.state_of}
use Rattle.store_calls.specs.{Outbox.without}
use Rattle.store_calls.proofs.run.let_go.Given as goal

-- `_gone` calls left the outbox
abbrev pub invariant-loop-gone : goal.invariant-loop-gone
invariant-loop-gone l = (l.store.medium ≡ without l._gone l.fn.store.medium) × IsUntouched state_of l.fn.store l.store
