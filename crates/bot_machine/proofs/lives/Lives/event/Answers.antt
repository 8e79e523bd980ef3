use Rattle.std.proofs.Common.{[], ◌∷◌}
use Rattle.medium.specs.SimLaws.{comes_after_through}
use Rattle.spec.specs.Lives.{starts, plays}
use Rattle.bot_machine.specs.LivesValue.{medium_in}
use Rattle.bot_machine.proofs.{LifeActions.on_before, LifeRuns.lives_go_on}
use Rattle.bot_machine.proofs.lives.Lives.event.Goals as goal

pub returns-clause-ok : goal.returns-clause-ok
returns-clause-ok c =
    let played = c.play.ensures.plays in
    record {
      goes_on = lives_go_on c.args.self.now c.start.new.self c.play.new.self (starts ∷ []) (plays c.args.event.now ∷ []) []
          (c.play.result ∷ []) c.in_ok-start.ensures.ok c.play.ensures.goes_on;
      begun = record {
        started = played.started;
        stood = λ m was on. c.in_ok-start.ensures.begun.stood m was
            (on_before (medium_in c.start.new.self.state) (medium_in c.play.new.self.state) played.follows on);
      };
      off = played.off;
    }

pub returns-clause-follows : goal.returns-clause-follows
returns-clause-follows c =
    comes_after_through (medium_in c.args.self.now.state) (medium_in c.start.new.self.state) (medium_in c.play.new.self.state)
    c.in_ok-start.ensures.follows c.play.ensures.plays.follows
