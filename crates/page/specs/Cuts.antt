-- What a cut makes of a medium.
use Rattle.std.specs.Prelude.{◌≡◌, ℕ, Bool}
use Rattle.medium.specs.Medium.{CutLeaves}
use Rattle.medium.specs.Moments.{IsFlushed}
use Rattle.medium.specs.Sim.{Sim, state_of, IsCut}

-- the kept writes are applied, and nothing is unflushed; the contents are allowed ones
pub record Settles (keep : ℕ → Bool) (old new : Sim) : Type 0 where
  pub cut : IsCut keep old new
  pub allowed : CutLeaves (state_of old).may_leave (state_of new).content
  pub flushed : IsFlushed (state_of new)
  pub size : (state_of new).size ≡ (state_of old).size
