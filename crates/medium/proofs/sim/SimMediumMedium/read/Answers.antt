use Rattle.std.proofs.Common.{◌≡◌, ℕ, [], refl, arith}
use Rattle.medium.proofs.SimCalls.{read_once}
use Rattle.medium.specs.Medium.{LooksOnly}
use Rattle.medium.specs.Sim.{Sim, state_of}
use Rattle.medium.proofs.sim.SimMediumMedium.read.Goals as goal

looks_at_none : (old new : Sim) (sector : ℕ) → LooksOnly (λ s. s ≡ sector) (state_of old) (state_of new)
looks_at_none old new sector =
    record { looks = []; looked = refl; only = λ k d below. absurd (omega (arith, below)) }

pub returns-then-not-admit-clause-follows : goal.returns-then-not-admit-clause-follows
returns-then-not-admit-clause-follows c = (
  read_once c.args.self.now c.admit.new.self c.admit.ensures.after,
  looks_at_none c.args.self.now c.admit.new.self c.args.sector,
)

pub returns-clause-follows : goal.returns-clause-follows
returns-clause-follows c = (
  read_once c.args.self.now c.admit.new.self c.admit.ensures.after,
  looks_at_none c.args.self.now c.admit.new.self c.args.sector,
)
