use Rattle.std.proofs.Common.{◌+◌, ◌-◌, ◌∙◌, ℕ, length, sym, subst, arith}
use borrow.Rule.Slice.PartMut.{put_mid}
use Rattle.medium.proofs.FileRuns.{left_long}
use Rattle.medium.proofs.Looks.{Looking, look_more, look_missed, look_refused}
use Rattle.medium.proofs.whole.look_whole.Goals as goal
use Rattle.medium.proofs.whole.look_whole.Goals.{in-Ok, in-Err}

pub returns-in-Ok-eq0-clause-missed : goal.returns-in-Ok-eq0-clause-missed
returns-in-Ok-eq0-clause-missed g c =
    let few = c.loop-turn.invariant.few in
    look_missed (g.S.ToldFile.told c.args.file.now).looks c.args.at (length c.args.to.now) c.loop-turn.done (length c.look_at.new.to)
    (omega (arith, few, c.if-done-to.false, c.loop-turn.auto.to))
    (c.look_at.auto.to ∙ left_long c.loop-turn.done c.loop-turn.to ∙ (omega (arith, c.loop-turn.auto.to)))
    ((rw c.in-Ok-eq0.is at c.look_at.ensures.ends) c.in-Ok-eq0.field-0-test)

pub returns-in-Err-2-clause-missed : goal.returns-in-Err-2-clause-missed
returns-in-Err-2-clause-missed g c =
    let few = c.loop-turn.invariant.few in
    look_missed (g.S.ToldFile.told c.args.file.now).looks c.args.at (length c.args.to.now) c.loop-turn.done (length c.look_at.new.to)
    (omega (arith, few, c.if-done-to.false, c.loop-turn.auto.to))
    (c.look_at.auto.to ∙ left_long c.loop-turn.done c.loop-turn.to ∙ (omega (arith, c.loop-turn.auto.to)))
    c.in-Err.ensures.err

pub loop-turn-preserved : goal.loop-turn-preserved
loop-turn-preserved g c =
    let looks = (g.S.ToldFile.told c.args.file.now).looks in
    let many = length c.args.to.now in
    let few = c.loop-turn.invariant.few in
    let rest = c.look_at.auto.to ∙ left_long c.loop-turn.done c.loop-turn.to in
    elim c.match-look_at.branch [
      | in-Ok w ↦
          subst (λ (n : ℕ). Looking looks c.args.at many
          (put_mid c.loop-turn.done (length c.loop-turn.to - c.loop-turn.done) c.loop-turn.to c.look_at.new.to) n (c.loop-turn.turn + 1))
          (sym w.done-is)
          (look_more looks c.args.at many c.loop-turn.done c.loop-turn.turn c.loop-turn.to c.look_at.new.to c.loop-turn.invariant
          c.loop-turn.auto.to rest w.in-Ok.count (omega (arith, w.in-Ok.count-test.1)) w.in-Ok.ensures.bound w.in-Ok.ensures.gives)
      | in-Err w ↦
          subst (λ (n : ℕ). Looking looks c.args.at many
          (put_mid c.loop-turn.done (length c.loop-turn.to - c.loop-turn.done) c.loop-turn.to c.look_at.new.to) n (c.loop-turn.turn + 1))
          (sym w.done-is)
          (look_refused looks c.args.at many c.loop-turn.done c.loop-turn.turn c.loop-turn.to c.look_at.new.to c.loop-turn.invariant
          c.loop-turn.auto.to rest
          (look_missed looks c.args.at many c.loop-turn.done (length c.look_at.new.to)
          (omega (arith, few, c.if-done-to.false, c.loop-turn.auto.to)) (rest ∙ (omega (arith, c.loop-turn.auto.to))) w.in-Err.ensures.err))
    ]

pub returns-then-done-to-clause-given : goal.returns-then-done-to-clause-given
returns-then-done-to-clause-given g c = λ i below. c.loop-turn.invariant.here i (omega (arith, below, c.if-done-to.true))
