use Rattle.std.proofs.Common.{inl, inr, refl}
use Rattle.std.proofs.lemmas.Result.{err_from_is_err_and, MatchResult-weaker}
use Rattle.bot_machine.proofs.disk.Disk.start_by.Goals as goal

pub returns-in_err-unit : goal.returns-in_err-unit
returns-in_err-unit g c =
    let p = err_from_is_err_and c.from_residual.result c.from_residual.ensures.1 in
    let refuses = c.in_err-unit.ensures in
    rw (p.1, p.2) (record {
      cause = record { cause = inl refuses.cause.cause; possible = refuses.cause.possible };
      leaves = refuses.leaves;
    })

pub returns : goal.returns
returns g c =
    let started = c.in_ok-unit.ensures.started in
    MatchResult-weaker c.over.result c.over.ensures (λ disk is. rw is.1 (record {
      opened = record {
        store = started.store;
        line = is.0;
        retires = started.retires;
        headroom = started.headroom;
        unit = started.opened;
        limit = started.limit;
      };
      leaves = c.in_ok-unit.ensures.leaves;
    })) (λ error is. rw (is.0, is.1) (record {
      cause = record {
        cause = inr (refl, (_, c.in_ok-unit.unit.store.cached, started.store));
        possible = λ book on. tt;
      };
      leaves = c.in_ok-unit.ensures.leaves;
    }))
