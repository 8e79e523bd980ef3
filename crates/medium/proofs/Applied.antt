-- Writes that are applied in order, and those of them that a cut keeps.
use Rattle.std.proofs.Common.{◌≡◌, ℕ, ◌+◌, ◌<◌, Bool, true, false, List, ◌∷◌, length, get_or, drop, refl, sym, ◌∙◌, ap, subst, add-one}
use Rattle.std.proofs.Math.Seq.{drop-cons}
use Rattle.medium.specs.declared.unflushed.UnflushedWrite.{UnflushedWrite}
use Rattle.medium.specs.Medium.{Image, Holds}
use Rattle.medium.proofs.Moments.{updated, holds_updated}
use Rattle.medium.specs.Writes.{latest, kept_writes, LieWithin}

pub next_write : (ws : List UnflushedWrite) (i : ℕ) (d : UnflushedWrite) → i < length ws → drop i ws ≡ get_or ws i d ∷ drop (i + 1) ws
next_write ws i d lt = rw add-one (drop-cons ws i d lt)

pub step_kept : (keep : ℕ → Bool) (i : ℕ) (w : UnflushedWrite) (rest : List UnflushedWrite) (image : Image) (s : ℕ) → keep i ≡ true
    → latest (kept_writes keep i (w ∷ rest)) s (image s) ≡ latest (kept_writes keep (i + 1) rest) s (updated image w.sector w.block s)
step_kept keep i w rest image s e = rw e refl

pub step_lost : (keep : ℕ → Bool) (i : ℕ) (w : UnflushedWrite) (rest : List UnflushedWrite) (image : Image) (s : ℕ) → keep i ≡ false
    → latest (kept_writes keep i (w ∷ rest)) s (image s) ≡ latest (kept_writes keep (i + 1) rest) s (image s)
step_lost keep i w rest image s e = rw e refl

-- the loop that applies the kept writes: one that is kept, and one that is lost
module _ (keep : ℕ → Bool) (ws : List UnflushedWrite) (i : ℕ) (d : UnflushedWrite) (lt : i < length ws) (old new : Image) where
  pub left_kept : keep i ≡ true → (s : ℕ) → Holds (get_or ws i d).sector (get_or ws i d).block old new
      → latest (kept_writes keep (i + 1) (drop (i + 1) ws)) s (new s) ≡ latest (kept_writes keep i (drop i ws)) s (old s)
  left_kept e s stored =
      ap (λ (c : List ℕ). latest (kept_writes keep (i + 1) (drop (i + 1) ws)) s c) (holds_updated old new _ _ stored s)
      ∙ sym (step_kept keep i (get_or ws i d) (drop (i + 1) ws) old s e)
      ∙ ap (λ (l : List UnflushedWrite). latest (kept_writes keep i l) s (old s)) (sym (next_write ws i d lt))

  pub left_lost : keep i ≡ false → (s : ℕ) → new s ≡ old s
      → latest (kept_writes keep (i + 1) (drop (i + 1) ws)) s (new s) ≡ latest (kept_writes keep i (drop i ws)) s (old s)
  left_lost e s same =
      ap (λ (c : List ℕ). latest (kept_writes keep (i + 1) (drop (i + 1) ws)) s c) same
      ∙ sym (step_lost keep i (get_or ws i d) (drop (i + 1) ws) old s e)
      ∙ ap (λ (l : List UnflushedWrite). latest (kept_writes keep i l) s (old s)) (sym (next_write ws i d lt))

pub room_left : (size : ℕ) (ws : List UnflushedWrite) (i : ℕ) (d : UnflushedWrite) → i < length ws → LieWithin size (drop i ws)
    → LieWithin size (drop (i + 1) ws)
room_left size ws i d lt room = (subst (LieWithin size) (next_write ws i d lt) room).1
