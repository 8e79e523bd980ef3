use Rattle.std.proofs.Common.{sym, ◌∙◌}
use Rattle.bot_machine.proofs.LifeStarts.{start_has_disk, start_is_cut, start_is_refused, start_of_disk, start_without_power, begun_running}
use Rattle.bot_machine.proofs.LifeStarts.{begun_with, begun_without_power}
use Rattle.bot_machine.proofs.lives.disk_state.start.Goals as goal

pub returns-in-Running-clause-ok : goal.returns-in-Running-clause-ok
returns-in-Running-clause-ok c = rw c.in-Running.is (start_of_disk _ c.in-Running.disk)

pub returns-in-Running-clause-begun : goal.returns-in-Running-clause-begun
returns-in-Running-clause-begun c = rw c.in-Running.is (begun_running c.in-Running.disk)

pub returns-then-is_off-clause-ok : goal.returns-then-is_off-clause-ok
returns-then-is_off-clause-ok c =
    rw c.in-Stopped.is (start_without_power _ c.in-Stopped.medium (sym c.is_off.ensures ∙ c.if-is_off.true))

pub returns-then-is_off-clause-begun : goal.returns-then-is_off-clause-begun
returns-then-is_off-clause-begun c = rw c.in-Stopped.is (begun_without_power _ _ (sym c.is_off.ensures ∙ c.if-is_off.true))

pub returns-in-Ok-clause-ok : goal.returns-in-Ok-clause-ok
returns-in-Ok-clause-ok c =
    let leaves = c.in-Ok.ensures.leaves in
    rw c.in-Stopped.is (start_has_disk _ c.in-Stopped.medium (sym c.is_off.ensures ∙ c.if-is_off.false) c.in-Ok.disk
    c.in-Ok.ensures.opened leaves.leaves leaves.medium.follows)

pub returns-in-Ok-clause-begun : goal.returns-in-Ok-clause-begun
returns-in-Ok-clause-begun c = rw c.in-Stopped.is (begun_with c.in-Stopped.medium c.in-Ok.disk _ c.in-Ok.ensures.opened)

pub returns-then-is_off-2-clause-ok : goal.returns-then-is_off-2-clause-ok
returns-then-is_off-2-clause-ok c =
    let leaves = c.in-Err.ensures.leaves in
    rw c.in-Stopped.is (start_is_cut _ c.in-Stopped.medium (sym c.is_off.ensures ∙ c.if-is_off.false) c.in-Err.error.medium
    leaves.leaves leaves.medium.follows (sym c.is_off-in-Err.ensures ∙ c.if-is_off-2.true))

pub returns-then-is_off-2-clause-begun : goal.returns-then-is_off-2-clause-begun
returns-then-is_off-2-clause-begun c =
    rw c.in-Stopped.is (begun_without_power _ _ (sym c.is_off-in-Err.ensures ∙ c.if-is_off-2.true))

pub returns-else-is_off-2-clause-err : goal.returns-else-is_off-2-clause-err
returns-else-is_off-2-clause-err c =
    let leaves = c.in-Err.ensures.leaves in
    let cause = c.in-Err.ensures.cause in
    let off = sym c.is_off.ensures ∙ c.if-is_off.false in
    rw c.in-Stopped.is (record {
      stops = start_is_refused _ c.in-Stopped.medium off c.in-Err.error.medium leaves.leaves leaves.medium.follows
          (sym c.is_off-in-Err.ensures ∙ c.if-is_off-2.false) c.in-Err.error.fault cause;
      cause = cause;
    })
