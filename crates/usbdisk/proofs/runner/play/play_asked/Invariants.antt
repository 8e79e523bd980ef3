use Rattle.std.proofs.Common.{◌≡◌, ◌++◌, List}
use Rattle.spec.specs.declared.event.Event.{Event}
use Rattle.usbdisk.specs.{runner.Events.events_of, runner.Played.TellsBy}
use Rattle.usbdisk.proofs.runner.play.play_asked.Given as goal

abbrev pub invariant-loop-event : goal.invariant-loop-event
invariant-loop-event g l = record {
  so_far : (events : List Event) × (events_of l.fn.asked ≡ events ++ events_of l.event-iterator)
      × TellsBy g.P.Player.goes (g.W.Write.contents l.fn.out) (g.W.Write.contents l.out) l.fn.player events l.player;
}
