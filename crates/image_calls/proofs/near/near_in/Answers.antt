use Rattle.std.proofs.Common.{sym, ap}
use Rattle.journal.specs.Places.{Shape, first_home}
use Rattle.image_calls.proofs.near.near_in.Goals as goal

pub returns-in-Some-clause-is : goal.returns-in-Some-clause-is
returns-in-Some-clause-is c = record {
  home = λ shape super. ap (λ (s : Shape). first_home s) (sym (c.in-Some.ensures.only shape (c.requires, super)));
  none = λ none. absurd (none _ c.in-Some.ensures.is.1);
}
