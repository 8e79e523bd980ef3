use Rattle.std.proofs.{Common.refl, lemmas.Result.err_from_is_err_and}
use Rattle.blocks.{proofs.KnownImages.is_cause_for, specs.StoreValue.layout_of}
use Rattle.scsi_unit.proofs.StartedUnit.{leaves_started}
use Rattle.scsi_unit.proofs.unit.Unit.start_by.Goals as goal

pub returns-in_err-store : goal.returns-in_err-store
returns-in_err-store g c =
    let p = err_from_is_err_and c.from_residual.result c.from_residual.ensures.1 in
    let state = g.M.Medium.state in
    let error = c.in_err-store.field-0.0 in
    let refuses = c.in_err-store.ensures in
    rw (p.1, p.2) (record {
      cause = record { cause = refuses.cause; possible = λ book on. is_cause_for _ _ book on _ refuses.cause };
      leaves = leaves_started state g.M.Medium.follows c.args.medium error.medium (g.met.M.Medium.sound error.medium) refuses.leaves;
    })

pub returns : goal.returns
returns g c =
    let state = g.M.Medium.state in
    let store = c.in_ok-store.store in
    let starts = c.in_ok-store.ensures in
    rw c.new.ensures.value (record {
      started = record {
        store = starts.started;
        retires = record { ahead = starts.policy; keeps = rw starts.started.log refl };
        headroom = starts.headroom;
        limit = record {
          shape = layout_of store.cached;
          array = starts.started.array;
          next = starts.started.next;
          stands = starts.started.stood;
          limit_is = refl;
        };
        opened = rw c.new.ensures.value at (c.new.ensures.opened starts.started.live);
      };
      leaves = leaves_started state g.M.Medium.follows c.args.medium store.medium (g.met.M.Medium.sound store.medium) starts.leaves;
    })
