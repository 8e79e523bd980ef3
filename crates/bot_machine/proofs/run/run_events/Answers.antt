use Rattle.std.proofs.Common.{◌++◌, ◌∷◌, [], take, refl, sym, ap, ◌∙◌, arith, append_assoc, length-append}
use Rattle.std.proofs.lemmas.List.{take_all, take_more, append-nil}
use Rattle.scsi_unit.proofs.UnitRuns.{comes_itself, comes_through}
use Rattle.bot_machine.proofs.Runs.{IsRun-more, no_run}
use Rattle.bot_machine.proofs.run.run_events.Goals as goal

pub loop-event-init : goal.loop-event-init
loop-event-init g c =
    record {
      run = ([], rw append-nil refl, no_run g.M.Medium.state c.args.disk.now (g.met.M.Medium.sound c.args.disk.now.unit.store.medium));
      follows = comes_itself g.met.M.Medium.follows_itself;
      count = omega arith;
      room = refl;
    }

pub push-requires : goal.push-requires
push-requires g c = rw (c.loop-event.invariant.room) (omega (arith, c.loop-event.invariant.count, c.loop-event-test.true, c.requires))

pub loop-event-preserved : goal.loop-event-preserved
loop-event-preserved g c =
    let old = c.args.disk.now in
    let mid = c.loop-event.disk in
    let new = c.answer_to.new.disk in
    let answer = c.answer_to.result in
    let so_far = c.loop-event.invariant.run in
    let i = c.loop-event.event-index in
    let events = c.args.events.now in
    let e = take_more events i c.event-item.result c.loop-event-test.true ∙ ap
    (λ x. take i events ++ x ∷ []) (sym c.event-item.is) in
    record {
      run = (
        so_far.0 ++ answer ∷ [],
        rw (c.push.ensures, so_far.1, append_assoc) refl,
        rw e (IsRun-more g.M.Medium.state old mid new (take i events) so_far.0 c.event-item.result answer so_far.2
            c.answer_to.ensures.step),
      );
      follows = comes_through g.met.M.Medium.follows_through c.loop-event.invariant.follows c.answer_to.ensures.follows;
      count = rw c.push.ensures (omega (arith, length-append c.loop-event.answers.list (answer ∷ []), c.loop-event.invariant.count));
      room = rw (c.push.ensures, c.loop-event.invariant.room) refl;
    }

pub returns : goal.returns
returns g c =
    let i = c.loop-event.event-index in
    let run = rw (take_all i c.args.events.now c.loop-event-test.false) at c.loop-event.invariant.run in
    (run.0, run.1, record { run = run.2; follows = c.loop-event.invariant.follows })
