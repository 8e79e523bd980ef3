-- Bytes whose end was laid over.
use Rattle.std.proofs.Common.{◌≡◌, ℕ, ◌+◌, ◌-◌, ◌<◌, ◌≤◌, List, length, drop, get_or, sym, ap, ◌∙◌, arith}
use Rattle.std.specs.Prelude.{slice_index}
use Rattle.std.proofs.lemmas.List.{get_or-drop, get_or-take}
use Rattle.std.proofs.lemmas.Slice.{take-put_mid_below, between-put_mid}
use borrow.Rule.Slice.PartMut.{put_mid}

-- these bytes with a part laid over all behind the first `done`
abbrev pub laid_over : ℕ → List ℕ → List ℕ → List ℕ
laid_over done bytes part = put_mid done (length bytes - done) bytes part

module _ (done : ℕ) (bytes part : List ℕ) (inside : done ≤ length bytes) (rest : length part ≡ length bytes - done) where
  pub stays_before : (i : ℕ) → i < done → slice_index bytes i ≡ slice_index (laid_over done bytes part) i
  stays_before i below =
      sym (get_or-take done bytes i 0 below)
      ∙ ap (λ (l : List ℕ). get_or l i 0) (sym (take-put_mid_below done (length bytes - done) bytes part done (omega arith) inside))
      ∙ get_or-take done (laid_over done bytes part) i 0 below

  pub lies_behind : (j : ℕ) → j < length part → slice_index part j ≡ slice_index (laid_over done bytes part) (done + j)
  lies_behind j below =
      ap (λ (l : List ℕ). get_or l j 0) (sym (between-put_mid done (length bytes - done) bytes part (length bytes) inside rest))
      ∙ get_or-take (length bytes - done) (drop done (laid_over done bytes part)) j 0 (omega (arith, below, rest))
      ∙ get_or-drop done (laid_over done bytes part) j 0
