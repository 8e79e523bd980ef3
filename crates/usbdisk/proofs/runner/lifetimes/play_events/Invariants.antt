use Rattle.std.{proofs.Common.{◌≡◌, ◌++◌, List}, specs.Prelude.flat_map}
use Rattle.bot_machine.specs.Fitting.{AreWithin}
use Rattle.spec.specs.Lives.{Action}
use Rattle.usbdisk.specs.{runner.Events.events_of, runner.Lifetimes.comes, runner.PlayedLives.TellsLives}
use Rattle.usbdisk.proofs.runner.lifetimes.play_events.Given as goal

abbrev pub invariant-loop-event : goal.invariant-loop-event
invariant-loop-event g l = record {
  so_far : (actions : List Action) × (flat_map comes (events_of l.fn.asked) ≡ actions ++ flat_map comes (events_of l.event-iterator))
      × TellsLives (g.W.Write.contents l.fn.out) (g.W.Write.contents l.out) l.fn.lives actions l.lives;
  within : AreWithin l.fn.lives.device.packet_size (events_of l.event-iterator);
}
