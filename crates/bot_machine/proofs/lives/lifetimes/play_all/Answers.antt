use Rattle.std.proofs.{Common.{◌++◌, ◌∷◌, [], map, take, refl, sym, ap, ◌∙◌}, lemmas.List.{take_more, map-append}}
use Rattle.spec.specs.Lives.{plays}
use Rattle.bot_machine.proofs.LifeRuns.{appends_on}
use Rattle.bot_machine.proofs.lives.lifetimes.play_all.Goals as goal

pub loop-event-preserved : goal.loop-event-preserved
loop-event-preserved c =
    let i = c.loop-event.event-index in
    let events = c.args.events.now in
    let event = c.event-item.result in
    let e = take_more events i event c.loop-event-test.true ∙ ap (λ x. take i events ++ x ∷ []) (sym c.event-item.is) in
    let same = ap (map plays) e ∙ map-append plays (take i events) (event ∷ []) in
    record {
      run = rw same (appends_on c.args.run.now c.loop-event.run c.play.new.self c.args.answers.now c.loop-event.answers c.push.new.self
          (map plays (take i events)) (plays event ∷ []) i 1 c.loop-event.invariant.run
          (record { told = c.play.result ∷ []; appends = c.push.ensures; one_each = refl; goes_on = c.play.ensures.goes_on }));
      started = c.play.ensures.plays.started;
    }
