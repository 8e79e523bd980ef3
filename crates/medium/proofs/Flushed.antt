-- What a write and a flush make of a medium in memory.
use Rattle.std.proofs.Common.{◌≡◌, ◌≢◌, ◌⊎◌, inl, inr, ⊎_elim, ℕ, ◌+◌, ◌*◌, ◌≤◌, Bool, true, List, [], ◌∷◌, ◌++◌, length, refl, sym, ◌∙◌}
use Rattle.std.proofs.Common.{ap, subst, arith, if◌then◌else◌, ◌==◌}
use Rattle.std.proofs.lemmas.Bool.Decides.{nat_tests}
use Rattle.medium.specs.declared.unflushed.UnflushedWrite.{UnflushedWrite}
use Rattle.medium.specs.Medium.{Stays, Holds}
use Rattle.medium.specs.Writes.{sector_of, latest, applied, IsWritten, kept_writes, LieWithin, are_whole}
use Rattle.medium.specs.Sim.{Sim, content_of, sets_of}
use Rattle.medium.specs.SimLaws.{among}
use Rattle.medium.proofs.KeptBlocks.{kept_allowed}
use Rattle.medium.specs.Power.{admits}
use Rattle.medium.specs.declared.fault.MediumFault.{MediumFault}
use Rattle.medium.specs.declared.power.Power.{Power}
use Rattle.std.proofs.lemmas.Bool.{and_parts}
use Rattle.std.proofs.lemmas.List.Folds.{list_all-append}

all_kept : (i : ℕ) (ws : List UnflushedWrite) → kept_writes (λ n. true) i ws ≡ ws
all_kept i [] = refl
all_kept i (w ∷ ws) = ap (λ (l : List UnflushedWrite). w ∷ l) (all_kept (i + 1) ws)

pub apply_all : (ws us : List UnflushedWrite) (xs ys : List ℕ) (s : ℕ) → ws ≡ us → xs ≡ ys
    → applied (kept_writes (λ n. true) 0 ws) (sector_of xs) s ≡ applied us (sector_of ys) s
apply_all ws us xs ys s same alike =
    ap (λ (l : List UnflushedWrite). applied l (sector_of xs) s) (all_kept 0 ws ∙ same)
    ∙ ap (λ (l : List ℕ). applied us (sector_of l) s) alike

-- a flush: xs and us are the flushed bytes and the unflushed writes after it
module _ (old : Sim) (xs : List ℕ) (us : List UnflushedWrite) (flushed : (s : ℕ) → sector_of xs s ≡ content_of old s) (none : us ≡ []) where
  pub flushed_content : Stays (content_of old) (applied us (sector_of xs))
  flushed_content s = ap (λ (ws : List UnflushedWrite). applied ws (sector_of xs) s) none ∙ flushed s

  pub flushed_only : (s : ℕ) (c : List ℕ) → (c ≡ sector_of xs s) ⊎ IsWritten us s c → c ≡ content_of old s
  flushed_only s c h =
      ⊎_elim (λ same. same ∙ flushed s) (λ some. absurd (subst (λ (ws : List UnflushedWrite). IsWritten ws s c) none some)) h

  pub flushed_set : (s : ℕ) (c : List ℕ) → (c ≡ sector_of xs s) ⊎ IsWritten us s c → sets_of old s c
  flushed_set s c h = subst (sets_of old s) (sym (flushed_only s c h)) (among old.unflushed s (sector_of old.flushed s))

latest_last : (ws : List UnflushedWrite) (w : UnflushedWrite) (s : ℕ) (c : List ℕ)
    → latest (ws ++ w ∷ []) s c ≡ (if s == w.sector then w.block else latest ws s c)
latest_last [] w s c = refl
latest_last (v ∷ ws) w s c = latest_last ws w s (if s == v.sector then v.block else c)

written_last : (ws : List UnflushedWrite) (w : UnflushedWrite) (s : ℕ) (c : List ℕ) → IsWritten (ws ++ w ∷ []) s c
    → IsWritten ws s c ⊎ ((s ≡ w.sector) × (c ≡ w.block))
written_last [] w s c h = ⊎_elim inr (λ none. absurd none) h
written_last (v ∷ ws) w s c h = ⊎_elim (λ here. inl (inl here)) (λ later. ⊎_elim (λ e. inl (inr e)) inr (written_last ws w s c later)) h

pub room_last : (size : ℕ) (ws : List UnflushedWrite) (w : UnflushedWrite) → LieWithin size ws → 512 * (w.sector + 1) ≤ size
    → LieWithin size (ws ++ w ∷ [])
room_last size [] w room fits = (fits, tt)
room_last size (v ∷ ws) w room fits = (room.0, room_last size ws w room.1 fits)

pub whole_last : (ws : List UnflushedWrite) (w : UnflushedWrite) → are_whole ws ≡ true → length w.block ≡ 512
    → are_whole (ws ++ w ∷ []) ≡ true
whole_last ws w whole long = list_all-append (λ (u : UnflushedWrite). length u.block == 512) ws (w ∷ []) ∙ rw whole (rw long refl)

at_here : (s : ℕ) (x y : List ℕ) → (if s == s then x else y) ≡ x
at_here s x y = grind (arith, nat_tests)

at_other : (t s : ℕ) (x y : List ℕ) → t ≢ s → (if t == s then x else y) ≡ y
at_other t s x y other = grind (arith, nat_tests)

-- a write: xs and us are the flushed bytes and the unflushed writes after it
module _ (old : Sim) (xs : List ℕ) (us : List UnflushedWrite) (w : UnflushedWrite) (flushed : xs ≡ old.flushed)
    (more : us ≡ old.unflushed ++ w ∷ []) where
  content_now : (t : ℕ) → applied us (sector_of xs) t ≡ (if t == w.sector then w.block else content_of old t)
  content_now t =
      ap (λ (ws : List UnflushedWrite). applied ws (sector_of xs) t) more
      ∙ ap (λ (l : List ℕ). applied (old.unflushed ++ w ∷ []) (sector_of l) t) flushed
      ∙ latest_last old.unflushed w t (sector_of old.flushed t)

  pub written_content : Holds w.sector w.block (content_of old) (applied us (sector_of xs))
  written_content = record {
    here = content_now w.sector ∙ at_here w.sector w.block (content_of old w.sector);
    elsewhere = λ t other. content_now t ∙ at_other t w.sector w.block (content_of old t) other;
  }

  pub written_set : (t : ℕ) (c : List ℕ) → (c ≡ sector_of xs t) ⊎ IsWritten us t c → sets_of old t c ⊎ ((t ≡ w.sector) × (c ≡ w.block))
  written_set t c h =
      ⊎_elim (λ same. inl (inl (same ∙ ap (λ (l : List ℕ). sector_of l t) flushed)))
      (λ some. ⊎_elim (λ e. inl (inr e)) inr
      (written_last old.unflushed w t c (subst (λ (ws : List UnflushedWrite). IsWritten ws t c) more some))) h

-- what happens fits
pub admits_fits : (p : Power) (kind : MediumFault) (fits : Bool) → admits p kind fits ≡ true → fits ≡ true
admits_fits p kind fits e = (and_parts _ fits e).1

-- a cut: xs and us are the flushed bytes and the unflushed writes after it
module _ (keep : ℕ → Bool) (old : Sim) (xs : List ℕ) (us : List UnflushedWrite)
    (image : (s : ℕ) → sector_of xs s ≡ applied (kept_writes keep 0 old.unflushed) (sector_of old.flushed) s) (none : us ≡ []) where
  -- it leaves what the sets allow
  pub cut_allowed : (s : ℕ) → sets_of old s (applied us (sector_of xs) s)
  cut_allowed s =
      let e = ap (λ (ws : List UnflushedWrite). applied ws (sector_of xs) s) none ∙ image s in
      subst (sets_of old s) (sym e) (kept_allowed keep old.unflushed (sector_of old.flushed) s)
