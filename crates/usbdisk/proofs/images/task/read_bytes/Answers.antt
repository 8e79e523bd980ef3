use Rattle.usbdisk.proofs.Bytes.{never_empty, only_units, plain_bytes}
use Rattle.usbdisk.proofs.Options.{none_weaker}
use Rattle.usbdisk.proofs.images.task.read_bytes.Goals as goal

pub returns-in_default-clause-none : goal.returns-in_default-clause-none
returns-in_default-clause-none c = λ bytes spells. never_empty c.args.word.now bytes c.in_default.ensures.cases spells

pub returns-in-Some-unit_of-clause-none : goal.returns-in-Some-unit_of-clause-none
returns-in-Some-unit_of-clause-none c = none_weaker c.read_units.result
    (only_units c.args.word.now c.in-Some.digits.now c.in-Some.last.now c.in-Some-unit_of.unit c.in-Some.ensures.cases.0
    c.in-Some-unit_of.ensures.0)
    c.read_units.ensures.none

pub returns-in-None-clause-some : goal.returns-in-None-clause-some
returns-in-None-clause-some c = plain_bytes c.args.word.now c.read_number.result c.read_number.ensures.spelled
