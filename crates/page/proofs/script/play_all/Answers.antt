use Rattle.std.proofs.Common.{ℕ, refl, add-one, subst, arith}
use Rattle.page.specs.Standing.{standing}
use Rattle.page.specs.Scripts.{HasReached}
use Rattle.page.proofs.script.play_all.Goals as goal

pub loop-i-init : goal.loop-i-init
loop-i-init c = λ book shows none. record { book = book; shows = shows; reaches = (none, refl) }

pub loop-i-preserved : goal.loop-i-preserved
loop-i-preserved c = λ book shows none.
    let h = c.loop-i.invariant book shows none in
    let g = c.in_ok-scene.ensures h.book h.shows in
    record {
      book = g.book;
      shows = g.shows;
      reaches = rw (add-one c.loop-i.i)
          (standing c.loop-i.scene h.book, c.loop-i.answers.items, g.result, g.told, h.reaches, g.turns);
    }

pub returns : goal.returns
returns c = λ book shows none.
    subst (λ (n : ℕ). HasReached c.args.script.now (standing c.args.first book) n c.loop-i.answers.items c.loop-i.scene)
    (omega (arith, c.loop-i-test.false, c.loop-i.auto.i-end)) (c.loop-i.invariant book shows none)
