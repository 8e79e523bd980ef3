use Rattle.std.proofs.Common.{sym, ◌∙◌, arith, rules}
use Rattle.std.proofs.lemmas.List.{append_cancel_left}
use Rattle.window.specs.Looks.{none_kept_out}
use Rattle.window.specs.Window.{Window, mirror_of, ComesAfter, IsServed}
use Rattle.window.specs.WindowView.{view_of}
use Rattle.window.proofs.Devices.{covers}
use Rattle.window.proofs.window.WindowMedium.waiting.Goals as goal

pub returns-clause-device : goal.returns-clause-device
returns-clause-device c =
    let was = view_of c.self.inside in
    let all = c.self.invariant.well_formed.mirror.all_sent in
    rw (← c.self.view_is) (λ new follows. covers (mirror_of was) (mirror_of new) all (search rules))

served : (old new : Window) → ComesAfter old new → IsServed old new
served old new follows looks looked all few =
    let same = append_cancel_left old.seen.looked looks follows.looks (sym looked ∙ follows.looked) in
    let none = none_kept_out old new follows few in
    grind (arith, follows.in_sight, all)

pub returns-clause-served : goal.returns-clause-served
returns-clause-served c = served c.args.self.now
