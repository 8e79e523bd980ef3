-- A window before its first call, and behind some.
use Rattle.std.proofs.Common.{◌≡◌, ℕ, List, refl, sym, ◌∙◌, arith, rules}
use Rattle.std.proofs.lemmas.List.{append_cancel_left}
use Rattle.window.proofs.Devices.{covers}
use Rattle.window.specs.Looks.{none_kept_out}
use Rattle.window.specs.Window.{Window, CoversDevice, ComesAfter, IsServed, fresh, mirror_of}

-- what its device may be
pub covers_fresh : (size : ℕ) (near holds : List ℕ) (span room : ℕ) (old new : Window) → old ≡ fresh size near holds span room
    → ComesAfter old new → CoversDevice old new
covers_fresh size near holds span room old new is follows = covers (mirror_of old) (mirror_of new) (rw is refl) (search rules)

-- which of its calls are not refused, whatever it was
pub served_after : (old new : Window) → ComesAfter old new → IsServed old new
served_after old new follows looks looked all few =
    let same = append_cancel_left old.seen.looked looks follows.looks (sym looked ∙ follows.looked) in
    let none = none_kept_out old new follows few in
    grind (arith, follows.in_sight, all)
