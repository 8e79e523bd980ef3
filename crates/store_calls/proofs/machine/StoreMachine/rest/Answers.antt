use Rattle.std.proofs.{Common.subst}
use Rattle.window.specs.{Parts.PartsFollow, Window.{Window, mirror_of, ComesAfter, CoversDevice}}
use Rattle.store_calls.specs.{Rooms.CoversParts}
use Rattle.store_calls.proofs.AtRest.{begins_behind, serves_at_rest}
use Rattle.store_calls.proofs.machine.StoreMachine.rest.Goals as goal

abbrev Covers : Window → Type 0
Covers m = (new : Window) → ComesAfter m new → CoversParts m new

covers : (m : Window) → PartsFollow → ((new : Window) → ComesAfter m new → CoversDevice m new) → Covers m
covers m law device = λ new follows. law (mirror_of m) (mirror_of new) (device new follows)

pub returns : goal.returns
returns c = record {
  serves = serves_at_rest c.args.self.now
      (subst Covers c.medium.ensures.is (covers c.medium.result.now c.device_laws.ensures c.waiting-waiting.ensures.device))
      c.medium.ensures.at_rest;
  starts = begins_behind c.args.self.now;
}
