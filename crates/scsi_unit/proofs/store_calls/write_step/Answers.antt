use Rattle.std.proofs.Common.{ℕ, subst}
use Rattle.scsi.specs.Rules.{write_by}
use Rattle.blocks.specs.Stages.{WriteStepPost}
use Rattle.scsi_unit.proofs.WantedCommands.{whole}
use Rattle.scsi_unit.proofs.store_calls.write_step.Goals as goal

pub returns : goal.returns
returns g c =
    let t = c.args.transfer in
    subst
    (λ (n : ℕ). WriteStepPost g.M.Medium.state g.M.Medium.follows (write_by t c.args.taken.now) t.address n c.write_step.result
    c.args.store.now c.write_step.new.self)
    (whole t.count c.args.taken.now c.requires.taken) c.write_step.ensures
