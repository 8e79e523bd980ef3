-- The lines of records.
use Rattle.std.proofs.Common.{◌≡◌, ℕ, ◌+◌, List, [], ◌∷◌, ◌++◌, length, take, get_or, ◌<◌, sym, ◌∙◌, ap, append_assoc, append-nil, arith}
use Rattle.std.{proofs.lemmas.List.{take_more, length-take-le}, specs.Prelude.{codes, decimal}}
use Rattle.usbdisk.specs.images.Showing.{number_line, record_lines}

abbrev line : ℕ → ℕ → List ℕ
line stamp count = codes "record " ++ decimal stamp ++ number_line (codes " ") count

-- the line of one record more
pub record_lines-more : (stamp : ℕ) (counts : List ℕ) (count : ℕ) → record_lines stamp (counts ++ count ∷ [])
    ≡ record_lines stamp counts ++ (codes "record " ++ decimal (stamp + length counts) ++ number_line (codes " ") count)
record_lines-more stamp [] count = append-nil (line stamp count) ∙ ap (λ (n : ℕ). line n count) (omega arith)
record_lines-more stamp (c ∷ counts) count =
    ap (λ (l : List ℕ). line stamp c ++ l) (
    record_lines-more (stamp + 1) counts count
    ∙ ap (λ (n : ℕ). record_lines (stamp + 1) counts ++ line n count) (omega arith)
    ) ∙ sym (append_assoc (line stamp c) (record_lines (stamp + 1) counts) (line (stamp + length (c ∷ counts)) count))

taken : (stamp i : ℕ) (counts : List ℕ) → i < length counts
    → record_lines stamp (take (i + 1) counts) ≡ record_lines stamp (take i counts) ++ line (stamp + i) (get_or counts i 0)
taken stamp i counts within =
    ap (λ (l : List ℕ). record_lines stamp l) (take_more counts i 0 within)
    ∙ record_lines-more stamp (take i counts) (get_or counts i 0)
    ∙ ap (λ (n : ℕ). record_lines stamp (take i counts) ++ line (stamp + n) (get_or counts i 0))
    (length-take-le i counts (omega (arith, within)))

-- and behind what was there before
pub record_lines-step : (stamp next i : ℕ) (counts first old new : List ℕ) → i < length counts
    → old ≡ first ++ record_lines stamp (take i counts) → next ≡ stamp + i
    → new ≡ old ++ (codes "record " ++ decimal next ++ number_line (codes " ") (get_or counts i 0))
    → new ≡ first ++ record_lines stamp (take (i + 1) counts)
record_lines-step stamp next i counts first old new within was is now =
    now ∙ ap (λ (l : List ℕ). l ++ line next (get_or counts i 0)) was
    ∙ ap (λ (n : ℕ). (first ++ record_lines stamp (take i counts)) ++ line n (get_or counts i 0)) is
    ∙ append_assoc first (record_lines stamp (take i counts)) (line (stamp + i) (get_or counts i 0))
    ∙ ap (λ (l : List ℕ). first ++ l) (sym (taken stamp i counts within))
