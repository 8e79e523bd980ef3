use Rattle.std.proofs.Common.{List, ℕ, Option, Some, None, IfSome, ◌-◌, ◌/◌, length}
use Rattle.page.specs.Scripts.{Begins, HasReached, IsReached, shape_for}
use Rattle.page.specs.Standing.{standing}
use Rattle.page.specs.declared.scene.Scene.{Scene}
use Rattle.page.specs.declared.script.Head.{Head}
use Rattle.page.proofs.play.reach.Goals as goal

reached : (head : Head) (script answers : List ℕ) (scene : Scene) (b : Begins (shape_for head.sizes) head.goes_ahead scene)
    (later : Option Scene) → IfSome later (HasReached script (standing scene b.book) (length script / 16 - 1) answers)
    → IfSome later (IsReached head script answers)
reached head script answers scene b (Some later) h = record { first = standing scene b.book; starts = b.starts; reached = h }
reached head script answers scene b None h = tt

pub returns-in-Some : goal.returns-in-Some
returns-in-Some c = λ none.
    let b = c.in-Some.ensures in
    reached _ c.args.script.now _ _ b _ (c.play_all.ensures b.book b.shows none)
