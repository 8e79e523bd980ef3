use Rattle.bot_machine.proofs.lives.Lives.play.Goals as goal

pub invariant_of-self : goal.invariant_of-self
invariant_of-self c = (λ e. cc, c.play.ensures.plays.packets _ (rw c.in-Some.is at c.self.invariant.1))
