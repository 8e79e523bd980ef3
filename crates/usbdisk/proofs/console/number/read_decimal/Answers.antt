use Rattle.std.proofs.Common.{◌∙◌, sym}
use Rattle.usbdisk.proofs.Numerals.{parsed-decimal, decimal-parsed, decimal-no_sign, decimal-no_zero, decimal-text}
use Rattle.usbdisk.proofs.console.number.read_decimal.Goals as goal

pub returns-then-not-has_plain_start-clause-refused : goal.returns-then-not-has_plain_start-clause-refused
returns-then-not-has_plain_start-clause-refused c number fits spelled =
    let plain = c.has_plain_start.ensures.1 (rw spelled (decimal-no_sign number fits, decimal-no_zero number fits)) in cc

pub returns-in_default-clause-refused : goal.returns-in_default-clause-refused
returns-in_default-clause-refused c number fits spelled = c.in_default.ensures.cases.0 (rw spelled (decimal-text number fits))

pub returns-in-Ok-parse-clause-spelled : goal.returns-in-Ok-parse-clause-spelled
returns-in-Ok-parse-clause-spelled c =
    let same = c.in-Ok.ensures.cases.0 in
    let plain = rw (← same) at (c.has_plain_start.ensures.0 c.if-not-has_plain_start.false) in
    sym same
    ∙ parsed-decimal c.in-Ok.digits.now c.in-Ok-parse.number c.parse.result c.parse.ensures.value.0 c.in-Ok-parse.is plain.0 plain.1

pub returns-in-Err-clause-refused : goal.returns-in-Err-clause-refused
returns-in-Err-clause-refused c number fits spelled =
    let parsed = decimal-parsed c.in-Ok.digits.now number c.parse.result c.parse.ensures.value.0 (c.in-Ok.ensures.cases.0 ∙ spelled) fits in
    cc
