use Rattle.std.proofs.Common.{◌<◌, length, take, sym, refl, arith}
use Rattle.redo_log.proofs.LeavingIndex.{filter_outside, other_kept, own_left}
use Rattle.redo_log.proofs.index.keep_others.Goals.{then-copied-slot, else-copied-slot}
use Rattle.redo_log.proofs.index.keep_others.Goals as goal

pub loop-at-init : goal.loop-at-init
loop-at-init c = record {
  seen = record {
    kept = sym (filter_outside c.args.slot (take c.args.from c.args.index.now) c.requires.outside);
    rest = refl;
    behind = omega arith;
    size = refl;
  };
  inside = c.requires.bounds.0;
}

pub loop-at-preserved : goal.loop-at-preserved
loop-at-preserved c =
    let seen = c.loop-at.invariant.seen in
    let inside = c.loop-at-test.true in
    let below : c.loop-at.at < length c.args.index.now = omega (arith, inside, c.requires.bounds) in
    elim c.if-copied-slot.branch [
      | then-copied-slot w ↦ record {
        seen = rw (w.index-is, w.to-is) (other_kept seen below (λ is. grind (arith, w.if-copied-slot, is)));
        inside = omega (arith, inside);
      }
      | else-copied-slot w ↦ record {
        seen = rw (w.index-is, w.to-is) (own_left seen below (grind (arith, w.if-copied-slot)));
        inside = omega (arith, inside);
      }
    ]
