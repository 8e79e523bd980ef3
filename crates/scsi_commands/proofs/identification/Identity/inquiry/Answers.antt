-- Pages 80h, 83h and B0h stand in the list of page codes, at places 1, 2 and 3.
use Rattle.std.proofs.Common.{refl, lit<, sym, ◌∙◌}
use Rattle.scsi_commands.proofs.identification.Identity.inquiry.Goals as goal

pub returns-in-Some-eq128-clause-listed : goal.returns-in-Some-eq128-clause-listed
returns-in-Some-eq128-clause-listed c =
    let step = c.in-Some-eq128 in (λ _. rw step.is (1, lit< tt, sym step.field-0-test ∙ step.field-0-is), λ _. refl)

pub returns-in-Some-eq131-clause-listed : goal.returns-in-Some-eq131-clause-listed
returns-in-Some-eq131-clause-listed c =
    let step = c.in-Some-eq131 in (λ _. rw step.is (2, lit< tt, sym step.field-0-test ∙ step.field-0-is), λ _. refl)

pub returns-in-Some-eq176-clause-listed : goal.returns-in-Some-eq176-clause-listed
returns-in-Some-eq176-clause-listed c =
    let step = c.in-Some-eq176 in (λ _. rw step.is (3, lit< tt, sym step.field-0-test ∙ step.field-0-is), λ _. refl)
