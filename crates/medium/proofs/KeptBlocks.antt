-- What a cut keeps of a medium in memory, and what it is with nothing unflushed.
use Rattle.std.specs.Prelude.{◌≡◌, ◌⊎◌, ℕ, ◌+◌, ◌/◌, Bool, true, false, List, [], ◌∷◌, length}
use Rattle.std.proofs.Common.{inl, inr, ⊎_elim, ◌∙◌, ap, sym}
use Rattle.std.proofs.lemmas.Bool.{cases_Bool}
use Rattle.medium.specs.Medium.{Image}
use Rattle.medium.specs.Moments.{IsFlushed}
use Rattle.medium.specs.Sim.{Sim, size_of, content_of, state_of}
use Rattle.medium.specs.SimLaws.{among, size_whole}
use Rattle.medium.specs.Writes.{sector_of, applied, IsWritten, are_whole, kept_writes}
use Rattle.medium.specs.declared.unflushed.UnflushedWrite.{UnflushedWrite}

kept_next : (keep : ℕ → Bool) (i : ℕ) (w : UnflushedWrite) (ws : List UnflushedWrite) (s : ℕ) (c : List ℕ)
    → (IsWritten (kept_writes keep (i + 1) ws) s c → IsWritten ws s c) → (keep i ≡ true) ⊎ (keep i ≡ false)
    → IsWritten (kept_writes keep i (w ∷ ws)) s c → IsWritten (w ∷ ws) s c
kept_next keep i w ws s c rest (inl e) h = ⊎_elim inl (λ later. inr (rest later)) (rw e at h)
kept_next keep i w ws s c rest (inr e) h = inr (rest (rw e at h))

-- a kept write is one of the writes
pub kept_among : (keep : ℕ → Bool) (i : ℕ) (ws : List UnflushedWrite) (s : ℕ) (c : List ℕ) → IsWritten (kept_writes keep i ws) s c
    → IsWritten ws s c
kept_among keep i [] s c h = h
kept_among keep i (w ∷ ws) s c h = kept_next keep i w ws s c (kept_among keep (i + 1) ws s c) (cases_Bool (keep i)) h

-- an image that the kept writes make is one that a cut may leave
pub kept_allowed : (keep : ℕ → Bool) (ws : List UnflushedWrite) (image : Image) (s : ℕ)
    → (applied (kept_writes keep 0 ws) image s ≡ image s) ⊎ IsWritten ws s (applied (kept_writes keep 0 ws) image s)
kept_allowed keep ws image s = ⊎_elim inl (λ h. inr (kept_among keep 0 ws s _ h)) (among (kept_writes keep 0 ws) s (image s))

-- where nothing is unflushed, the size is that of the flushed bytes
pub none_size : (m : Sim) → m.unflushed ≡ [] → size_of m ≡ length m.flushed / 512
none_size m none = size_whole m (ap (λ (ws : List UnflushedWrite). are_whole ws) none)

-- where nothing is unflushed, a read gives the flushed bytes
pub none_content : (m : Sim) → m.unflushed ≡ [] → (s : ℕ) → content_of m s ≡ sector_of m.flushed s
none_content m none s = ap (λ (ws : List UnflushedWrite). applied ws (sector_of m.flushed) s) none

-- where nothing is unflushed, a cut leaves what a read gives
pub none_flushed : (m : Sim) → m.unflushed ≡ [] → IsFlushed (state_of m)
none_flushed m none s c left = elim left [
  | inl same ↦ same ∙ sym (none_content m none s)
  | inr written ↦ absurd (subst_none written)
]
  where
    subst_none : IsWritten m.unflushed s c → ⊥
    subst_none written = rw none at written
