use Rattle.store_calls.proofs.{Untouched.is_refused}
use Rattle.store_calls.proofs.refused.refuse.Goals as goal

pub returns : goal.returns
returns c = is_refused c.args.store.now c.drain.new.store c.stop.new.self c.drain.ensures c.stop.ensures.dead c.stop.ensures.fits
