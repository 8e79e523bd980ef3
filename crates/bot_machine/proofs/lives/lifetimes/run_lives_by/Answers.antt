use Rattle.std.proofs.{Common.{◌≡◌, [], take, drop, suc, length, length-append, refl, sym, subst, ◌∙◌, ap, arith}, lemmas.List.take_all}
use Rattle.bot_machine.specs.{declared.lives.disk_state.DiskState.TheVariants.Stopped, Answers.Room, Device.device_with}
use Rattle.bot_machine.specs.{LivesValue.LivesValue, Lifetimes.{actions_of, actions_of_all, events_in, AppendsFor}}
use Rattle.bot_machine.proofs.LifeRuns.{appends_on, none_yet, actions_more, events_more, room_left, apart, all_lived, lived_up_to}
use Rattle.bot_machine.proofs.lives.lifetimes.run_lives_by.Goals as goal

pub loop-life-init : goal.loop-life-init
loop-life-init c =
    let first : LivesValue = record { device = device_with c.args.setup; state = Stopped c.args.medium } in
    let answers = c.args.answers.now in
    record {
      run = subst (λ (x : LivesValue). AppendsFor first x answers answers [] 0) (sym c.new_by-run.ensures.value) (none_yet first answers);
      ended = rw c.new_by-run.ensures.value (record { rests = c.requires.awaits.rests; unfused = c.requires.awaits.unfused; alone = refl });
    }

pub live-requires-clause-within : goal.live-requires-clause-within
live-requires-clause-within c =
    rw (c.loop-life.invariant.run.goes_on.device_stays, c.life-item.is)
    (c.requires.within c.loop-life.life-index c.life-item.result c.loop-life-test.true)

pub live-requires-clause-room : goal.live-requires-clause-room
live-requires-clause-room c =
    let appends = c.loop-life.invariant.run in
    let lists = ap (λ (x : Room). length x.list) appends.appends in
    let rooms = ap (λ (x : Room). x.room) appends.appends in
    let told = appends.one_each in
    let left = room_left c.args.lives.now c.loop-life.life-index c.life-item.result c.loop-life-test.true c.life-item.is in
    let room = c.requires.awaits.room in
    omega (arith, lists, rooms, told, left, room, length-append c.args.answers.now.list appends.told)

pub returns-in-Err-clause-moves_until : goal.returns-in-Err-clause-moves_until
returns-in-Err-clause-moves_until c =
    let lives = c.args.lives.now in
    let i = c.loop-life.life-index in
    let life = c.life-item.result in
    let lived = c.loop-life.invariant.run in
    let ended = c.loop-life.invariant.ended in
    let awaits = c.requires.awaits in (
      lived.told,
      c.in-Err.ensures.err.unanswered ∙ lived.appends,
      rw c.into_medium.ensures
          (lived_up_to c.args.medium (device_with c.args.setup) awaits.rests awaits.unfused
          c.loop-life.run c.live.new.run lived.told lives (take i lives) (drop (suc i) lives) life c.in-Err.fault
          (apart lives i life c.loop-life-test.true c.life-item.is) lived.goes_on lived.one_each ended
          c.in-Err.ensures.err.cause c.in-Err.ensures.err.stops),
    )

pub loop-life-preserved : goal.loop-life-preserved
loop-life-preserved c =
    let first : LivesValue = record { device = device_with c.args.setup; state = Stopped c.args.medium } in
    let lives = c.args.lives.now in
    let i = c.loop-life.life-index in
    let life = c.life-item.result in
    let below = c.loop-life-test.true in
    let more = appends_on first c.loop-life.run c.live.new.run c.args.answers.now c.loop-life.answers c.live.new.answers
    (actions_of_all (take i lives)) (actions_of life) (events_in (take i lives)) (length life.events.items) c.loop-life.invariant.run
    c.in_default.ensures.ok in
    record {
      run = rw (events_more lives i life below c.life-item.is, actions_more lives i life below c.life-item.is) more;
      ended = c.in_default.ensures.ended;
    }

pub returns-clause-moves : goal.returns-clause-moves
returns-clause-moves c =
    let lives = c.args.lives.now in
    let i = c.loop-life.life-index in
    let all : take i lives ≡ lives = take_all i lives c.loop-life-test.false in
    let run = rw all at c.loop-life.invariant.run in
    let ended = c.loop-life.invariant.ended in (
      run.told,
      run.appends,
      rw c.into_medium-2.ensures
          (all_lived c.args.medium (device_with c.args.setup) c.requires.awaits.rests c.requires.awaits.unfused
          c.loop-life.run run.told lives run.goes_on run.one_each ended),
    )

pub returns-clause-promise : goal.returns-clause-promise
returns-clause-promise c = let moves = returns-clause-moves c in (moves.0, moves.1, moves.2.kept)

pub returns-in-Err-clause-promise_until : goal.returns-in-Err-clause-promise_until
returns-in-Err-clause-promise_until c = let moves = returns-in-Err-clause-moves_until c in (moves.0, moves.1, moves.2.up_to)
