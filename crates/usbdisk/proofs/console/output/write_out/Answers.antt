use Rattle.std.proofs.Common.{◌≡◌, ◌++◌, ◌-◌, ◌∙◌, ℕ, List, [], Bor, take, drop, length, ap, sym, refl, append_assoc, take-append-drop}
use Rattle.std.proofs.{lemmas.List.take_rest, KnownBytes.{Appends-nil, Appends-trans, Appends-kept}}
use Rattle.usbdisk.proofs.console.output.write_out.Goals.{in-Ok, in-Err}
use Rattle.usbdisk.proofs.console.output.write_out.Goals as goal

-- what was written moves from the rest to the front
moves : (all written rest : List ℕ) (n : ℕ) → all ≡ written ++ rest → all ≡ (written ++ take n rest) ++ take (length rest - n) (drop n rest)
moves all written rest n split =
    split ∙ ap (λ l. written ++ l) (sym (take-append-drop n rest)) ∙ sym (append_assoc written (take n rest) (drop n rest))
    ∙ ap (λ l. (written ++ take n rest) ++ l) (sym (take_rest rest n))

pub writes-init : goal.writes-init
writes-init g c = ([], refl, Appends-nil (g.W.Write.contents c.args.out.now))

pub writes-preserved : goal.writes-preserved
writes-preserved g c =
    let (written, split, appended) = c.writes.invariant in
    let contents = g.W.Write.contents in
    elim c.match-write.branch [
      | in-Ok w ↦ (
        written ++ take w.in-Ok.count c.writes.rest.now,
        moves c.args.bytes.now written c.writes.rest.now w.in-Ok.count split
            ∙ ap (λ (r : Bor (List ℕ)). (written ++ take w.in-Ok.count c.writes.rest.now) ++ r.now) (sym w.rest-is),
        Appends-trans (contents c.args.out.now) (contents c.writes.out) (contents c.write.new.self) written
            (take w.in-Ok.count c.writes.rest.now) appended w.in-Ok.ensures.bytes,
      )
      | in-Err w ↦ (
        written,
        split ∙ ap (λ (r : Bor (List ℕ)). written ++ r.now) (sym w.rest-is),
        Appends-kept (contents c.args.out.now) (contents c.writes.out) (contents c.write.new.self) written appended w.in-Err.ensures.bytes,
      )
    ]
