use Rattle.std.proofs.Common.{◌≡◌, ◌≤◌, ◌∷◌, ◌∙◌, ℕ, List, map, string_bytes, length, ap, sym, arith, Global}
use Rattle.std.specs.Prelude.{get_or, String}
use Rattle.usbdisk.specs.console.Program.{FirstWordIs}
use Rattle.usbdisk.proofs.console.program.named.Goals as goal

first : (args : List (String Global)) (word : String Global) (text : List ℕ) → 2 ≤ length args → word ≡ get_or args 1 word
    → string_bytes word ≡ text → FirstWordIs (map string_bytes args) text
first (name ∷ second ∷ behind) word text many is spelled = (
  string_bytes name,
  map string_bytes behind,
  ap (λ (t : List ℕ). string_bytes name ∷ t ∷ map string_bytes behind) (ap string_bytes (sym is) ∙ spelled),
)
first _ word text few is spelled = absurd (omega (arith, few))

pub returns-in-image : goal.returns-in-image
returns-in-image c = first _ c.word-item.result _ c.in-len2-up.len_at_least c.word-item.is (sym c.as_str.ensures.value ∙ c.in-image.is)

pub returns-in-live : goal.returns-in-live
returns-in-live c = first _ c.word-item.result _ c.in-len2-up.len_at_least c.word-item.is (sym c.as_str.ensures.value ∙ c.in-live.is)
