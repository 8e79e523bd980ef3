use Rattle.std.proofs.Common.{◌<◌, ℕ, length, sym, subst, arith}
use Rattle.medium.proofs.FileRuns.{Putting, put_none, put_more, put_refused, left_of}
use Rattle.medium.proofs.whole.put.Goals as goal
use Rattle.medium.proofs.whole.put.Goals.{in-Ok, in-Err}

pub loop-init : goal.loop-init
loop-init g c = put_none c.args.at c.args.bytes.now (g.S.ToldFile.told c.args.file.now)

pub loop-preserved : goal.loop-preserved
loop-preserved g c =
    let old = g.S.ToldFile.told c.args.file.now in
    let mid = g.S.ToldFile.told c.loop.file in
    let new = g.S.ToldFile.told c.write_at.new.self in
    let few = c.loop.invariant.few in
    let left : c.loop.done < length c.args.bytes.now = omega (arith, few, c.if-done-bytes.false) in
    elim c.match-write_at.branch [
      | in-Ok w ↦
          subst (λ (n : ℕ). Putting c.args.at c.args.bytes.now n old new) (sym w.done-is)
          (put_more c.args.at c.args.bytes.now c.loop.done _ (left_of c.loop.done c.args.bytes.now) old mid new c.loop.invariant
          w.in-Ok.count (omega (arith, w.in-Ok.count-test))
          w.in-Ok.ensures.bound w.in-Ok.ensures.asked w.in-Ok.ensures.takes)
      | in-Err w ↦
          subst (λ (n : ℕ). Putting c.args.at c.args.bytes.now n old new) (sym w.done-is)
          (put_refused c.args.at c.args.bytes.now c.loop.done _ (left_of c.loop.done c.args.bytes.now) old mid new c.loop.invariant left
          w.in-Err.ensures.asked w.in-Err.ensures.err)
    ]
