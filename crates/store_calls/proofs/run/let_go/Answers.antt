use Rattle.std.proofs.Common.{refl}
use Rattle.store_calls.proofs.Untouched.{none_yet, one_more}
use Rattle.store_calls.proofs.OutboxTaken as taking
use Rattle.store_calls.proofs.run.let_go.Goals as goal

pub loop-gone-init : goal.loop-gone-init
loop-gone-init c = (refl, none_yet c.args.store.now)

pub loop-gone-preserved : goal.loop-gone-preserved
loop-gone-preserved c = (
  taking.one_more c.loop-gone._gone c.args.store.now.medium c.loop-gone.store.medium c.pop.new.self.medium c.loop-gone.invariant.0
      c.pop.ensures.given,
  one_more c.args.store.now c.loop-gone.store c.pop.new.self c.loop-gone.invariant.1 c.pop.ensures.untouched,
)
