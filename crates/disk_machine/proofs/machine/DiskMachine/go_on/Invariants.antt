use Rattle.disk_machine.specs.Going.{PendingSteps}
use Rattle.disk_machine.proofs.machine.DiskMachine.go_on.Given as goal

-- `_made` steps were made
abbrev pub invariant-loop-made : goal.invariant-loop-made
invariant-loop-made l = PendingSteps l._made l.fn.self l.self
