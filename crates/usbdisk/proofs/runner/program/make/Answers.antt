use Rattle.std.proofs.{Common.{◌≡◌, ◌⊎◌, ◌↔◌, ℕ, List, Option, None, Result, Err, ap, inl, inr}, lemmas.Result.err_from_is_err_and}
use Rattle.usbdisk.specs.declared.console.refusal.Refusal.{Refusal}
use Rattle.usbdisk.specs.declared.console.refusal.Refusal.TheVariants.{ImageSize, FileFailed, NoMemory}
use Rattle.usbdisk.proofs.Options.{if_ok, if_err}
use Rattle.journal.specs.declared.log_format.LogFormat.{LogFormat}
use Rattle.usbdisk.{specs.runner.Program.{AreImageSizes, IsFormatRefused}, proofs.Refusals.untouched}
use Rattle.usbdisk.proofs.runner.program.make.Goals as goal

-- why no image was made, where nothing was written
not_made : {M : Type 0} (was : Option (List ℕ)) (path : List ℕ) (format : LogFormat) (blocks slots : ℕ) (refusal : Refusal)
    → (◌≡◌ {A = Result M Refusal} (Err refusal) (Err ImageSize)) ↔ ¬ AreImageSizes format blocks slots
    → (refusal ≡ ImageSize) ⊎ ((refusal ≡ FileFailed) ⊎ (refusal ≡ NoMemory))
    → IsFormatRefused was was None path format blocks slots refusal
not_made was path format blocks slots refusal size (inl is) = inl (is, size.0 (ap Err is), untouched was)
not_made was path format blocks slots refusal size (inr (inl is)) =
    inr (λ none. (let same = size.1 none in absurd (cc)), inr (is, inl (untouched was)))
not_made was path format blocks slots refusal size (inr (inr is)) =
    inr (λ none. (let same = size.1 none in absurd (cc)), inl (is, untouched was))

pub returns-in_err-medium-clause-refused : goal.returns-in_err-medium-clause-refused
returns-in_err-medium-clause-refused g c =
    let made = c.in_err-medium.ensures in
    let p = err_from_is_err_and c.from_residual.result c.from_residual.ensures.1 in
    rw (p.1, p.2.0, p.2.1) (not_made _ _ _ _ _ _ made.size made.refused)

pub returns-clause-done : goal.returns-clause-done
returns-clause-done g c =
    if_ok c.say_done.result
    (λ back told. record { made = c.in_ok-medium.medium; given = told.0; is_made = c.in_ok-medium.ensures.made; written = told.1 })
    c.say_done.ensures.done

pub returns-clause-refused : goal.returns-clause-refused
returns-clause-refused g c =
    let made = c.in_ok-medium.ensures.made in
    if_err c.say_done.result
    (λ stopped told. inr (
      (λ never. never made.sizes),
      inr (told.1, inr (record { made = c.in_ok-medium.medium; given = told.0; is_made = made; written = told.2 })),
    ))
    c.say_done.ensures.refused
