use Rattle.std.{proofs.Common.{◌∙◌, ℕ, List, [], ap, sym, subst}, specs.Prelude.get_or}
use Rattle.usbdisk.specs.images.Task.{SpellsBytes}
use Rattle.usbdisk.proofs.Options.{none_weaker}
use Rattle.usbdisk.proofs.images.task.read_align.Goals as goal

pub returns-clause-none : goal.returns-clause-none
returns-clause-none c = none_weaker c.read_bytes.result
    (λ never bytes align. never bytes (subst (λ (word : List ℕ). SpellsBytes word bytes)
    (sym (ap (λ (words : List (List ℕ)). get_or words 1 []) align.1) ∙ sym c.as_bytes.ensures.value) align.2))
    c.read_bytes.ensures.none
