use Rattle.bot_machine.proofs.lives.Lives.fuse.Goals as goal

pub invariant_of-self : goal.invariant_of-self
invariant_of-self c = (λ e. cc, c.fuse.ensures.armed.packets _ (rw c.in-Some.is at c.self.invariant.1))
