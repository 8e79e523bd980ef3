use Rattle.std.proofs.Common.{ℕ, ◌+◌, length, drop, sym, ◌∙◌, ap, subst, List, [], get_or}
use Rattle.medium.specs.declared.unflushed.UnflushedWrite.{UnflushedWrite}
use Rattle.medium.specs.Medium.{Holds}
use Rattle.medium.specs.Writes.{sector_of, keeps, LieWithin}
use Rattle.medium.proofs.Applied.{left_kept, left_lost, room_left}
use Rattle.medium.proofs.sectors.apply.Goals.{then-keeps, else-keeps}
use Rattle.medium.proofs.sectors.apply.Goals as goal

pub loop-i-preserved : goal.loop-i-preserved
loop-i-preserved c =
    let d : UnflushedWrite = record { sector = 0; block = [] } in
    let lt = c.loop-i-test.true in
    record {
      room = subst (λ (n : ℕ). LieWithin n (drop (c.loop-i.i + 1) c.args.writes.now)) (sym c.if-keeps.auto.bytes)
          (room_left (length c.loop-i.bytes) c.args.writes.now c.loop-i.i d lt c.loop-i.invariant.room);
      left = λ s. elim c.if-keeps.branch [
        | then-keeps w ↦
            left_kept (keeps c.args.kept.now) c.args.writes.now c.loop-i.i d lt (sector_of c.loop-i.bytes) (sector_of c.if-keeps.bytes)
            (sym c.keeps.ensures ∙ w.if-keeps.true) s
            (subst
            (λ (l : List ℕ). Holds (get_or c.args.writes.now c.loop-i.i d).sector (get_or c.args.writes.now c.loop-i.i d).block
            (sector_of c.loop-i.bytes) (sector_of l))
            (sym w.bytes-is) w.store.ensures)
            ∙ c.loop-i.invariant.left s
        | else-keeps w ↦
            left_lost (keeps c.args.kept.now) c.args.writes.now c.loop-i.i d lt (sector_of c.loop-i.bytes) (sector_of c.if-keeps.bytes)
            (sym c.keeps.ensures ∙ w.if-keeps.false) s (ap (λ (l : List ℕ). sector_of l s) w.bytes-is)
            ∙ c.loop-i.invariant.left s
      ];
    }
