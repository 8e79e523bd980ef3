use Rattle.device_file.proofs.Joined.{all_asked, all_in_order, part_asked}
use Rattle.device_file.proofs.Copies.{copied_all, copied_part, copied_until}
use Rattle.device_file.proofs.copying.copy_sectors.Goals as goal

pub returns-in-Err-clause-err : goal.returns-in-Err-clause-err
returns-in-Err-clause-err g c = copied_until c.in-Err.fault c.in-Err.ensures

pub returns-in-Err-clause-runs : goal.returns-in-Err-clause-runs
returns-in-Err-clause-runs g c = part_asked c.in-Err.ensures.takes

pub returns-in-Ok-put_rest-clause-ok : goal.returns-in-Ok-put_rest-clause-ok
returns-in-Ok-put_rest-clause-ok g c =
    copied_all c.in-Ok.ensures (all_in_order c.in-Ok.ensures.takes c.in-Ok-put_rest.ensures.asks tt)

pub returns-in-Ok-put_rest-clause-runs : goal.returns-in-Ok-put_rest-clause-runs
returns-in-Ok-put_rest-clause-runs g c = all_asked c.in-Ok.ensures.takes c.put_rest.ensures.asks c.put_rest.ensures.runs

pub returns-in-Err-put_rest-clause-err : goal.returns-in-Err-put_rest-clause-err
returns-in-Err-put_rest-clause-err g c = copied_part c.in-Err-put_rest.fault c.in-Ok.ensures c.in-Err-put_rest.ensures.asks.named
    (all_in_order c.in-Ok.ensures.takes c.in-Err-put_rest.ensures.asks c.in-Err-put_rest.ensures.some)

pub returns-in-Err-put_rest-clause-runs : goal.returns-in-Err-put_rest-clause-runs
returns-in-Err-put_rest-clause-runs g c = all_asked c.in-Ok.ensures.takes c.put_rest.ensures.asks c.put_rest.ensures.runs
