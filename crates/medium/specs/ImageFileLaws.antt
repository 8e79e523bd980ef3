-- What holds of a medium over an image file at each moment.
use Rattle.std.specs.Prelude.{ℕ, List, length}
use Rattle.std.proofs.Common.{refl, ◌∙◌, ap, arith}
use Rattle.medium.specs.ImageFile.{Copied, state_of, ComesAfter}
use Rattle.medium.specs.Medium.{IsSound}
use Rattle.medium.specs.SimLaws.{whole_sector}

pub is_sound : (m : Copied) → IsSound (state_of m)
is_sound m = record {
  holds_content = λ s. refl;
  counts_now = λ t image le now. now;
  only_now = λ image since. since;
  sized = λ s c inside left. ap (λ (l : List ℕ). length l) left ∙ whole_sector m.bytes s inside;
}

pub comes_after_itself : (m : Copied) → ComesAfter m m
comes_after_itself m = record {
  path_stays = refl;
  length_stays = refl;
  later = omega arith;
  failures_stay = omega arith;
  writes_stay = omega arith;
  copy_stays = λ copy same. copy;
}

pub comes_after_through : (a b c : Copied) → ComesAfter a b → ComesAfter b c → ComesAfter a c
comes_after_through a b c f g = record {
  path_stays = g.path_stays ∙ f.path_stays;
  length_stays = g.length_stays ∙ f.length_stays;
  later = omega (arith, f.later, g.later);
  failures_stay = omega (arith, f.failures_stay, g.failures_stay);
  writes_stay = omega (arith, f.writes_stay, g.writes_stay);
  copy_stays = λ copy same.
      let first = f.writes_stay in
      let second = g.writes_stay in
      g.copy_stays (f.copy_stays copy (omega (arith, first, second, same))) (omega (
        arith,
        first,
        second,
        same,
      ));
}
