-- What holds of a medium in memory at each moment.
use Rattle.std.specs.Prelude.{◌≡◌, ◌⊎◌, ℕ, ◌*◌, ◌/◌, ◌<◌, min, true, false, List, [], ◌∷◌, ◌++◌}
use Rattle.std.specs.Prelude.{length, drop, ◌==◌}
use Rattle.std.proofs.Common.{inl, inr, ⊎_elim, refl, subst, ◌∙◌, ap, arith}
use Rattle.std.proofs.lemmas.Bool.{cases_Bool, and_parts}
use Rattle.std.proofs.lemmas.Bool.Decides.{eqb_tells, nat_tests}
use Rattle.std.proofs.lemmas.List.{length-take, length-drop}
use Rattle.medium.specs.Medium.{IsSound}
use Rattle.medium.specs.Sim.{Sim, SimCall, size_of, sets_of, state_of, MakeAll, ComesAfter}
use Rattle.medium.specs.Writes.{sector_of, latest, IsWritten, are_whole}
use Rattle.medium.specs.declared.unflushed.UnflushedWrite.{UnflushedWrite}

among_next : (w : UnflushedWrite) (ws : List UnflushedWrite) (s : ℕ) (c : List ℕ)
    → (((s == w.sector) ≡ true) × (s ≡ w.sector)) ⊎ (((s == w.sector) ≡ false) × (s ≡ w.sector → ⊥))
    → (latest ws s w.block ≡ w.block) ⊎ IsWritten ws s (latest ws s w.block)
    → (latest ws s c ≡ c) ⊎ IsWritten ws s (latest ws s c)
    → (latest (w ∷ ws) s c ≡ c) ⊎ IsWritten (w ∷ ws) s (latest (w ∷ ws) s c)
among_next w ws s c (inl here) of_block of_c = rw here.0
    (⊎_elim (λ same. inr (inl (here.1, same))) (λ later. inr (inr later)) of_block)
among_next w ws s c (inr other) of_block of_c =
    rw other.0 (⊎_elim inl (λ later. inr (inr later)) of_c)

-- what a sector holds after some writes is what it held or what one of them put there
pub among : (ws : List UnflushedWrite) (s : ℕ) (c : List ℕ) → (latest ws s c ≡ c)
    ⊎ IsWritten ws s (latest ws s c)
among [] s c = inl refl
among (w ∷ ws) s c =
    among_next w ws s c (eqb_tells s w.sector) (among ws s w.block) (among ws s c)

-- where the writes are of whole sectors, the size is that of the flushed bytes
pub size_whole : (m : Sim) → are_whole m.unflushed ≡ true → size_of m ≡ length m.flushed / 512
size_whole m whole = rw whole refl

none_of_no_sectors : (m : Sim) → are_whole m.unflushed ≡ false → size_of m ≡ 0
none_of_no_sectors m not = rw not refl

-- a sector that lies within the bytes has 512 of them
pub whole_sector : (bytes : List ℕ) (s : ℕ) → s < length bytes / 512
    → length (sector_of bytes s) ≡ 512
whole_sector bytes s inside =
    length-take 512 (drop (512 * s) bytes)
    ∙ ap (λ (n : ℕ). min 512 n) (length-drop (512 * s) bytes)
    ∙ grind (arith, nat_tests)

whole_write : (ws : List UnflushedWrite) (s : ℕ) (c : List ℕ)
    → are_whole ws ≡ true → IsWritten ws s c → length c ≡ 512
whole_write [] s c whole h = absurd h
whole_write (w ∷ ws) s c whole h =
    let parts = and_parts (length w.block == 512) (are_whole ws) whole in
    ⊎_elim
    (λ here. ap (λ (l : List ℕ). length l) here.1 ∙ grind (arith, nat_tests, parts.0))
    (λ later. whole_write ws s c parts.1 later) h

sized : (m : Sim) (s : ℕ) (c : List ℕ) → s < size_of m → sets_of m s c → length c ≡ 512
sized m s c inside left = elim (cases_Bool (are_whole m.unflushed)) [
  | inl whole ↦ ⊎_elim
      (λ same. ap (λ (l
      : List ℕ). length l) same ∙ whole_sector m.flushed s (rw (size_whole m whole) at inside))
      (λ written. whole_write m.unflushed s c whole written) left
  | inr not ↦ absurd (omega (arith, inside, none_of_no_sectors m not))
]

pub is_sound : (m : Sim) → IsSound (state_of m)
is_sound m = record {
  holds_content = λ s. among m.unflushed s (sector_of m.flushed s);
  counts_now = λ t image le now. now;
  only_now = λ image since. since;
  sized = sized m;
}

pub comes_after_itself : (m : Sim) → ComesAfter m m
comes_after_itself m = record { calls = []; made = refl }

made_through : (first more : List SimCall) (a b c : Sim) → MakeAll first a b → MakeAll more b c
    → MakeAll (first ++ more) a c
made_through [] more a b c f g = subst (λ (m : Sim). MakeAll more m c) f g
made_through (call ∷ first) more a b c f g =
    (f.0, f.1, made_through first more f.0 b c f.2 g)

pub comes_after_through : (a b c : Sim) → ComesAfter a b → ComesAfter b c → ComesAfter a c
comes_after_through a b c f g = record {
  calls = f.calls ++ g.calls;
  made = made_through f.calls g.calls a b c f.made g.made;
}
