use Rattle.std.proofs.Common.{◌≡◌, []}
use Rattle.logical_blocks.specs.Book.{Book}
use Rattle.page.specs.Scenes.{Shows}
use Rattle.page.specs.Standing.{standing}
use Rattle.page.specs.Scripts.{HasReached}
use Rattle.page.proofs.script.play_all.Given as goal

abbrev pub invariant-loop-i : goal.invariant-loop-i
invariant-loop-i l = (book : Book) → Shows l.fn.first book → l.fn.answers.items ≡ []
    → HasReached l.script (standing l.fn.first book) l.i l.answers.items l.scene
