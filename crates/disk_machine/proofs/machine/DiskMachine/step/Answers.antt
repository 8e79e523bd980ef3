use Rattle.std.proofs.{Common.{refl, inr}, lemmas.Bool.false≢true}
use Rattle.disk_machine.proofs.machine.DiskMachine.step.Goals as goal

pub returns : goal.returns
returns c = inr (λ held. absurd (false≢true (c.if-is_held.ensures.1 held)), c.make_steps.ensures, refl)
