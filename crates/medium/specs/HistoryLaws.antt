-- What holds of a medium that remembers at each moment.
use Rattle.std.specs.Prelude.{ℕ, ◌≤◌, List, [], ◌∷◌, length}
use Rattle.std.proofs.Common.{inl, ⊎_elim, arith}
use Rattle.medium.specs.Medium.{Image, IsSound}
use Rattle.medium.specs.SimLaws as sim_laws
use Rattle.medium.specs.Sim.{Sim}
use Rattle.medium.specs.History.{Remembered, LeftEarlier, state_of, ComesAfter}

-- no earlier moment has the number of this one
none_earlier : (t : ℕ) (past : List Sim) (image : Image) → length past ≤ t
    → LeftEarlier t past image → ⊥
none_earlier t [] image le left = left
none_earlier t (m ∷ before) image le left = ⊎_elim
    (λ here. absurd (omega (arith, le, here.0)))
    (λ more. none_earlier t before image (omega (arith, le)) more) left

pub is_sound : (m : Remembered) → IsSound (state_of m)
is_sound m = record {
  holds_content = (sim_laws.is_sound m.now).holds_content;
  counts_now = λ t image le now. inl now;
  only_now = λ image since. ⊎_elim (λ now. now)
      (λ left. absurd (none_earlier (length m.earlier) m.earlier image (omega arith) left)) since;
  sized = (sim_laws.is_sound m.now).sized;
}

pub comes_after_itself : (m : Remembered) → ComesAfter m m
comes_after_itself m = record {
  medium = sim_laws.comes_after_itself m.now;
  later = omega arith;
  remembers = λ t image le left. left;
}

pub comes_after_through : (a b c : Remembered) → ComesAfter a b → ComesAfter b c → ComesAfter a c
comes_after_through a b c f g = record {
  medium = sim_laws.comes_after_through a.now b.now c.now f.medium g.medium;
  later = omega (arith, f.later, g.later);
  remembers = λ t image le left. g.remembers t image (omega (arith, le, f.later))
      (f.remembers t image le left);
}
