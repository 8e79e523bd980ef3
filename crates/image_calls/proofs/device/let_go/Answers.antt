use Rattle.store_calls.proofs.{OutboxTaken.one_more}
use Rattle.image_calls.proofs.device.let_go.Goals as goal

pub loop-gone-preserved : goal.loop-gone-preserved
loop-gone-preserved c =
    one_more c.loop-gone._gone c.args.medium.now c.loop-gone.medium c.pop.new.self c.loop-gone.invariant c.pop.ensures.given
