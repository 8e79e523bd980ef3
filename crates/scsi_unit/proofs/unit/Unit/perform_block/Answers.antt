use Rattle.std.proofs.{Common.{sym, ◌∙◌, arith}, lemmas.Result.err_from_is_err_and}
use Rattle.scsi_unit.{proofs.{FaultedUnit.passed, PerformedCommands.refuses}, specs.UnitValue.unit_limit}
use Rattle.scsi.specs.Rules.{intention_by}
use Rattle.blocks.specs.StoreValue.{blocks_of, is_dead}
use Rattle.scsi_unit.proofs.unit.Unit.perform_block.Goals as goal

pub returns-in_err-command-clause-performs : goal.returns-in_err-command-clause-performs
returns-in_err-command-clause-performs g c =
    let p = err_from_is_err_and c.from_residual.result c.from_residual.ensures.1 in
    rw (p.1, p.2, sym c.command.ensures.value ∙ c.in_err-command.was) (refuses (g.met.M.Medium.sound _))

pub perform-requires : goal.perform-requires
unfolding intention_by
perform-requires g c =
    let unit = c.args.self.now in
    let is = sym c.command.ensures.value ∙ c.in_ok-command.was in
    record {
      served = rw is at (passed (blocks_of unit.store.cached) (unit_limit unit) unit.kept.attention (is_dead unit.store.cached)
          c.args.block.now);
      supported = c.in_ok-command.ensures.supported;
      taken_all = rw is at c.requires.taken_all;
      room = rw is at c.requires.room;
    }

pub returns-clause-sends : goal.returns-clause-sends
unfolding intention_by
returns-clause-sends g c = rw (sym c.command.ensures.value ∙ c.in_ok-command.was) c.perform.ensures.sends

pub returns-clause-calls : goal.returns-clause-calls
returns-clause-calls g c =
    let is = sym c.command.ensures.value ∙ c.in_ok-command.was in
    let few = rw c.in_ok-command.was at (c.command.ensures.few c.args.taken.now) in
    let bounded = c.perform.ensures.bounded in
    record {
      bounded = record { most = rw is bounded.calls; one_batch = bounded.one_batch };
      few = omega (arith, few, bounded.calls);
      sent = bounded.sent;
      looks = rw is bounded.looks;
    }
