use Rattle.std.proofs.Common.{inl, inr, refl, arith}
use Rattle.recovery.proofs.starting.StartingMachine.made.Goals as goal

pub returns-then-self-eq0 : goal.returns-then-self-eq0
returns-then-self-eq0 g c =
    (refl, refl, rw c.in-Survey.is (c.made.new.self, c.made.ensures, inr (c.if-self-eq0.true, c.behind_survey-self.ensures.goes)))

pub returns-else-self-eq0 : goal.returns-else-self-eq0
returns-else-self-eq0 g c =
    (refl, refl, rw c.in-Survey.is (c.made.new.self, c.made.ensures, inl (omega (arith, c.if-self-eq0.false), refl)))

pub returns-then-self-eq0-2 : goal.returns-then-self-eq0-2
returns-then-self-eq0-2 g c = (refl, refl, rw c.in-Copy.is (_, c.copy_made.ensures.0, inr (c.if-self-eq0-2.true, refl)))

pub returns-else-self-eq0-2 : goal.returns-else-self-eq0-2
returns-else-self-eq0-2 g c = (refl, refl, rw c.in-Copy.is (_, c.copy_made.ensures.0, inl (omega (arith, c.if-self-eq0-2.false), refl)))
