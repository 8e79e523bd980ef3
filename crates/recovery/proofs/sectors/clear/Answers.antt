use Rattle.std.proofs.{Common.{refl, ap, arith, rules, ℕ}, lemmas.Result.on_ok_weaker}
use Rattle.medium.{proofs.Tallies.{calls_most, calls_all, sends_most}, specs.Tally.Tally}
use Rattle.recovery.{specs.Calls.IsBetween, proofs.JoinedCalls.{refused_call, none_read}}
use Rattle.recovery.proofs.sectors.clear.Goals as goal

pub returns : goal.returns
returns g c =
    let driven = c.drive.ensures.driven in
    -- it began with none cleared
    let run = driven.runs (record { start = c.args.m.now; from = c.args.from; end = c.args.end }) (grind arith) in
    let elsewhere = λ (x : ℕ) (not : ¬ IsBetween c.args.from c.args.end x). run.1.elsewhere x (rw run.1.end_is at not) in
    let exact = on_ok_weaker c.drive.result (λ end. calls_all end.1 tt refl) c.drive.ensures.done in
    record {
      zeros = on_ok_weaker c.drive.result (λ end x low high. let none_left = ap (λ (t : Tally). t.writes) end.0 in
          run.1.zeros x low (omega (arith, none_left, run.1.end_is, high))) c.drive.ensures.done;
      clears = search (rules, elsewhere, run.0, calls_most driven.tallied, refused_call c.drive.result driven.tallied, exact);
      follows = search (rules, c.drive.ensures.follows, sends_most driven.tallied, none_read driven.tallied refl driven.looks);
    }
