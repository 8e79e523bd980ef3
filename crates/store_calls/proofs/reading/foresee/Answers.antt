use Rattle.std.proofs.{Common.subst}
use Rattle.window.specs.{Parts.PartsFollow, Window.{Window, mirror_of, ComesAfter, CoversDevice, IsServed}}
use Rattle.store_calls.specs.{Rooms.Foresees}
use Rattle.store_calls.proofs.reading.foresee.Goals as goal

foreseen : (m : Window) → PartsFollow → ((new : Window) → ComesAfter m new → CoversDevice m new)
    → ((new : Window) → ComesAfter m new → IsServed m new) → Foresees m
foreseen m law covers served = record {
  covers = covers;
  parts = λ new follows. law (mirror_of m) (mirror_of new) (covers new follows);
  served = served;
}

pub returns : goal.returns
returns c =
    let says = c.waiting-waiting.ensures in
    subst Foresees c.medium.ensures.is (foreseen c.medium.result.now c.device_laws.ensures says.device says.served)
