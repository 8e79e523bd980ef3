use Rattle.std.proofs.Common.{◌-◌, ◌∙◌, ℕ, length, sym, subst}
use borrow.Rule.Slice.PartMut.{put_mid}
use Rattle.medium.proofs.FileRuns.{Reading, read_none, read_more, read_refused, left_long}
use Rattle.medium.proofs.whole.read_whole.Goals as goal
use Rattle.medium.proofs.whole.read_whole.Goals.{in-Ok, in-Err}

pub loop-init : goal.loop-init
loop-init g c = read_none (length c.args.to.now) c.args.to.now (g.S.ToldFile.told c.args.file.now)

pub loop-preserved : goal.loop-preserved
loop-preserved g c =
    let old = g.S.ToldFile.told c.args.file.now in
    let mid = g.S.ToldFile.told c.loop.file in
    let new = g.S.ToldFile.told c.read_at.new.self in
    let many = length c.args.to.now in
    elim c.match-read_at.branch [
      | in-Ok w ↦
          subst (λ (n : ℕ). Reading many (put_mid c.loop.done (length c.loop.to - c.loop.done) c.loop.to c.read_at.new.to) n old new) (sym
          w.done-is)
          (read_more many c.loop.done c.loop.to c.read_at.new.to old mid new c.loop.invariant c.loop.auto.to
          (c.read_at.auto.to ∙ left_long c.loop.done c.loop.to) w.in-Ok.count
          w.in-Ok.ensures.bound w.in-Ok.ensures.asked w.in-Ok.ensures.gives)
      | in-Err w ↦
          subst (λ (n : ℕ). Reading many (put_mid c.loop.done (length c.loop.to - c.loop.done) c.loop.to c.read_at.new.to) n old new) (sym
          w.done-is)
          (read_refused many c.loop.done c.loop.to c.read_at.new.to old mid new c.loop.invariant c.loop.auto.to
          (c.read_at.auto.to ∙ left_long c.loop.done c.loop.to)
          w.in-Err.ensures.asked w.in-Err.ensures.err)
    ]
