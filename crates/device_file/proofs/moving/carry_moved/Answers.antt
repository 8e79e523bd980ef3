use Rattle.std.proofs.Common.{◌∙◌}
use Rattle.device_file.proofs.Joined.{all_asked, all_in_order, err_is, part_asked, part_in_order}
use Rattle.device_file.proofs.moving.carry_moved.Goals as goal

pub returns-clause-takes : goal.returns-clause-takes
returns-clause-takes g c = record {
  in_order = all_in_order c.in_ok-move_all.ensures.takes c.put_rest.ensures.asks c.put_rest.ensures.some;
  size = c.put_rest.ensures.asks.size ∙ c.in_ok-move_all.ensures.takes.size;
  named = c.put_rest.ensures.asks.named;
}

pub returns-in_err-move_all-clause-takes : goal.returns-in_err-move_all-clause-takes
returns-in_err-move_all-clause-takes g c = rw (err_is c.from_residual.result c.from_residual.ensures.1) (record {
  in_order = part_in_order c.in_err-move_all.ensures.takes;
  size = c.in_err-move_all.ensures.takes.size;
  named = c.in_err-move_all.ensures.named;
})

pub returns-clause-runs : goal.returns-clause-runs
returns-clause-runs g c = all_asked c.in_ok-move_all.ensures.takes c.put_rest.ensures.asks c.put_rest.ensures.runs

pub returns-in_err-move_all-clause-runs : goal.returns-in_err-move_all-clause-runs
returns-in_err-move_all-clause-runs g c = part_asked c.in_err-move_all.ensures.takes
