use Rattle.std.proofs.Common.{refl}
use Rattle.disk_machine.{specs.Plays.medium_of, proofs.Handing.{none_yet, one_more}}
use Rattle.store_calls.proofs.OutboxTaken as taking
use Rattle.disk_machine.proofs.run.let_go.Goals as goal

pub loop-gone-init : goal.loop-gone-init
loop-gone-init c = (refl, none_yet c.args.disk.now)

pub loop-gone-preserved : goal.loop-gone-preserved
loop-gone-preserved c = (
  taking.one_more c.loop-gone._gone (medium_of c.args.disk.now) (medium_of c.loop-gone.disk) (medium_of c.pop.new.self)
      c.loop-gone.invariant.0 c.pop.ensures.armed,
  one_more c.args.disk.now c.loop-gone.disk c.pop.new.self c.loop-gone.invariant.1
      (record { others = c.pop.ensures.rearmed; pending = c.pop.ensures.pending; stands = c.pop.ensures.stands }),
)
