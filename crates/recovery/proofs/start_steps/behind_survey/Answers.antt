use Rattle.std.proofs.Common.{inl, inr, refl, ◌∙◌, arith}
use Rattle.recovery.specs.Copying.{copying_of}
use Rattle.recovery.proofs.start_steps.behind_survey.Goals as goal

pub returns-then-found-eq0-clause-goes : goal.returns-then-found-eq0-clause-goes
returns-then-found-eq0-clause-goes c = rw (← c.len.ensures.value) (inr (
  omega (arith, c.if-found.false),
  copying_of c.restart.new.self c.first_step.result,
  grind (arith, c.restart.ensures, c.first_step.ensures),
  inr (c.first_step.ensures.0 ∙ c.if-found-eq0.true, refl),
))

pub returns-clause-goes : goal.returns-clause-goes
returns-clause-goes c = rw (← c.len.ensures.value) (inr (
  omega (arith, c.if-found.false),
  copying_of c.restart.new.self c.first_step.result,
  grind (arith, c.restart.ensures, c.first_step.ensures),
  inl (omega (arith, c.first_step.ensures.0, c.if-found-eq0.false), refl),
))
