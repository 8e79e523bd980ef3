use Rattle.std.proofs.Common.{map, take}
use Rattle.spec.specs.Lives.{plays}
use Rattle.bot_machine.specs.{LivesValue.HasStarted, Lifetimes.AppendsFor}
use Rattle.bot_machine.proofs.lives.lifetimes.play_all.Given as goal

abbrev pub invariant-loop-event : goal.invariant-loop-event
invariant-loop-event l = record {
  run : AppendsFor l.fn.run l.run l.fn.answers l.answers (map plays (take l.event-index l.events)) l.event-index;
  started : HasStarted l.run.state;
}
