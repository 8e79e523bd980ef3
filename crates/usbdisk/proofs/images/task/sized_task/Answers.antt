use Rattle.std.proofs.Common.{ℕ, List, ◌∷◌, ap, sym, subst, drop, map, codes}
use Rattle.usbdisk.specs.images.Task.{AreNewOptions, HasNewOptions, IsMakeLine}
use Rattle.usbdisk.proofs.Options.{none_so}
use Rattle.usbdisk.proofs.images.task.sized_task.Goals as goal

-- what stands behind the blocks
options_of : (image first blocks : List ℕ) (options : List (List ℕ)) → IsMakeLine (codes "make" ∷ image ∷ first ∷ blocks ∷ options)
    → HasNewOptions options
options_of image first blocks options (path, sizes, existing, are) = (
  sizes.format,
  sizes.slots,
  sizes.align,
  existing,
  subst (λ (words : List (List ℕ)). AreNewOptions words sizes.format sizes.slots sizes.align existing)
      (sym (ap (drop 4) are.words_are)) are.options_are,
)

pub returns-in_err-options-clause-none : goal.returns-in_err-options-clause-none
returns-in_err-options-clause-none c =
    let none : IsMakeLine (codes "make" ∷ c.args.image.now ∷ c.args.first.now ∷ c.args.blocks.now
    ∷ map (λ word. word.now) c.args.options.now) → ⊥ = λ line. c.in_err-options.ensures.none (options_of _ _ _ _ line) in
    none_so _ none
