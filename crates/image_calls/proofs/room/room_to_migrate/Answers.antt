use Rattle.std.proofs.Common.{inl, inr, refl}
use Rattle.image_calls.proofs.room.room_to_migrate.Goals as goal

pub returns-in-Some : goal.returns-in-Some
returns-in-Some c = λ some. inl (_, c.in-Some.ensures.is.1, c.sends_to_migrate.ensures)

pub returns-in-None : goal.returns-in-None
returns-in-None c = λ some. inr (λ shape super. c.in-None.ensures (shape, (some, super)), refl)
