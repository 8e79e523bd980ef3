use Rattle.std.proofs.Common.{◌≡◌, ◌∙◌, sym, arith}
use Rattle.std.proofs.lemmas.Fmt.{decimal_injective}
use Rattle.usbdisk.proofs.console.number.read_number.Goals as goal
use Rattle.usbdisk.proofs.console.number.read_number.Goals.{then-number-least-via-then-number-least}
use Rattle.usbdisk.proofs.console.number.read_number.Goals.{then-number-least-via-else-number-least+then-number-most}

pub returns-then-number-least-clause-refused : goal.returns-then-number-least-clause-refused
returns-then-number-least-clause-refused c number spelled =
    let same : c.in_ok-number.number ≡ number = decimal_injective c.in_ok-number.number number (omega arith)
    (omega (arith, spelled.not_more)) (sym c.in_ok-number.ensures.spelled ∙ spelled.digits) in
    elim c.then-number-least.branch [
      | then-number-least-via-then-number-least w ↦ omega (arith, same, spelled.not_less)
      | then-number-least-via-else-number-least+then-number-most w ↦ omega (arith, same, spelled.not_more)
    ]
