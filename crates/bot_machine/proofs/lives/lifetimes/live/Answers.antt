use Rattle.std.proofs.{Common.{map, length, refl}, lemmas.Result.err_from_is_err_and}
use Rattle.medium.specs.Writes.{keeps}
use Rattle.spec.specs.Lives.{plays, cuts}
use Rattle.bot_machine.specs.{Lifetimes.armed_by, LivesValue.state_in}
use Rattle.bot_machine.proofs.LifeRuns.{whole_life, no_life, not_for_a_fuse}
use Rattle.bot_machine.proofs.lives.lifetimes.live.Goals as goal

pub returns-in_err-start-clause-err : goal.returns-in_err-start-clause-err
returns-in_err-start-clause-err c =
    let p = err_from_is_err_and c.from_residual.result c.from_residual.ensures.1 in
    rw (p.1, p.2) (record {
      stops = no_life c.args.run.now c.arm.new.run c.start.new.self (armed_by c.args.life.now.fuse) c.in_err-start.field-0.0
          c.arm.ensures.goes_on c.in_err-start.ensures.err.stops;
      cause = not_for_a_fuse c.args.life.now.fuse c.args.run.now c.arm.new.run (state_in c.start.new.self.state)
          c.in_err-start.field-0.0 c.arm.ensures.fused c.in_err-start.ensures.err.cause;
      unanswered = refl;
    })

pub returns-clause-ok : goal.returns-clause-ok
returns-clause-ok c =
    let life = c.args.life.now in
    let events = rw c.as_slice.ensures.value at c.play_all.ensures in
    whole_life c.args.run.now c.arm.new.run c.start.new.self c.play_all.new.run c.cut.new.self c.args.answers.now c.play_all.new.answers
    (armed_by life.fuse) (map plays life.events.items) (length life.events.items) (cuts (keeps life.kept)) c.arm.ensures.goes_on
    c.in_ok-start.ensures.ok events c.cut.ensures.goes_on
