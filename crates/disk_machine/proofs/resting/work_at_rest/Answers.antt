use Rattle.std.proofs.Common.{inl, arith}
use Rattle.disk_machine.proofs.resting.work_at_rest.Goals as goal

pub returns-then-not-is_written : goal.returns-then-not-is_written
returns-then-not-is_written c = inl (grind arith, inl (grind arith, c.write_frozen.ensures))
