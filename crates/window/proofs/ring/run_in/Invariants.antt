use Rattle.std.proofs.Common.{◌≡◌, ℕ, ◌<◌, ◌+◌}
use Rattle.window.specs.Ring.{kind_at}
use Rattle.window.specs.declared.outbox.Kind.TheVariants.{Write}
use Rattle.window.proofs.ring.run_in.Given as goal

abbrev pub invariant-loop-at : goal.invariant-loop-at
invariant-loop-at l = (i : ℕ) → i < l.at → kind_at l.kinds l.head i ≡ Write (l.first + i)
