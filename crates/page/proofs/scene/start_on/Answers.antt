use Rattle.std.proofs.Common.{refl}
use Rattle.page.proofs.Lives.{counts_none}
use Rattle.page.proofs.scene.start_on.Goals as goal

pub returns-in-Ok : goal.returns-in-Ok
returns-in-Ok c = λ book leaves ours none.
    let f = c.in-Ok.ensures book leaves ours none in
    record {
      later = f.later;
      shows = record {
        holds = (f.fits, f.live);
        ours = f.finds.ours;
        counts = counts_none c.args.life c.next-life.result f.later c.next-life.ensures f.finds.none f.finds.mark;
      };
      starts = record {
        opens = f.finds.opens;
        life = c.next-life.ensures;
        policy = refl;
        ends = (c.in-Ok.store, refl, f.policy, f.follows);
      };
    }

pub returns-in-Err : goal.returns-in-Err
returns-in-Err c = λ book leaves ours none.
    let f = c.in-Err.ensures book leaves ours none in
    record {
      later = f.later;
      shows = record {
        holds = f.leaves;
        ours = f.finds.ours;
        counts = counts_none c.args.life c.next-life.result f.later c.next-life.ensures f.finds.none f.finds.mark;
      };
      starts = record {
        opens = f.finds.opens;
        life = c.next-life.ensures;
        policy = refl;
        ends = (
          c.in-Err.medium,
          refl,
          record { fault = f.fault; cause = f.cause; told = c.fault_of-fault.ensures },
          f.follows,
        );
      };
    }
