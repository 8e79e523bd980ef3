-- What a run writes.
use Rattle.std.proofs.Common.{◌≡◌, ℕ, ◌+◌, List, [], ◌∷◌, ◌++◌, length, inl, inr, sym, ◌∙◌, ap, arith}
use Rattle.window.specs.declared.call.SectorWrite.{SectorWrite}
use Rattle.window.specs.declared.call.DeviceCall.{DeviceCall}
use Rattle.window.specs.declared.call.DeviceCall.TheVariants.{Write}
use Rattle.device_file.specs.Asked.{writes_of, GoesOn}

-- a block behind the others is the last that is written
pub writes_of-append : (first : ℕ) (blocks : List (List ℕ)) (block : List ℕ) → writes_of first (blocks ++ block ∷ [])
    ≡ writes_of first blocks ++ Write (record { sector = first + length blocks; block = block }) ∷ []
writes_of-append first [] block = ap (λ (s : ℕ). Write (record { sector = s; block = block }) ∷ []) (omega arith)
writes_of-append first (b ∷ blocks) block =
    ap (λ (l : List DeviceCall). Write (record { sector = first; block = b }) ∷ l) (
    writes_of-append (first + 1) blocks block
    ∙ ap (λ (s : ℕ). writes_of (first + 1) blocks ++ Write (record { sector = s; block = block }) ∷ []) (omega arith)
    )

-- the first block, or the one behind the last
pub writes_of-more : (first first' : ℕ) (blocks : List (List ℕ)) (w : SectorWrite) → GoesOn first blocks w.sector first'
    → writes_of first' (blocks ++ w.block ∷ []) ≡ writes_of first blocks ++ Write w ∷ []
writes_of-more first first' blocks w (inl begins) =
    ap (λ (l : List (List ℕ)). writes_of first' (l ++ w.block ∷ [])) begins.0
    ∙ ap (λ (s : ℕ). Write (record { sector = s; block = w.block }) ∷ []) begins.1
    ∙ ap (λ (l : List (List ℕ)). writes_of first l ++ Write w ∷ []) (sym begins.0)
writes_of-more first first' blocks w (inr next) =
    ap (λ (s : ℕ). writes_of s (blocks ++ w.block ∷ [])) next.0 ∙ writes_of-append first blocks w.block
    ∙ ap (λ (s : ℕ). writes_of first blocks ++ Write (record { sector = s; block = w.block }) ∷ []) (sym next.1)
