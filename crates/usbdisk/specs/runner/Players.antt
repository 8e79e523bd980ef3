-- What plays events, one after another.
use Rattle.std.specs.Prelude.{◌≡◌, ℕ, List, [], ◌++◌, length}
use Rattle.spec.specs.{declared.event.Event.Event, declared.event.Answer.Answer}

-- The laws of how it goes through events, each with one answer, and of the most bytes of a packet.
pub record IsPlayer {D : Type 0} (Goes : D → List Event → List Answer → D → Type 0)
    (most : D → ℕ) : Type 0 where
  pub none : (d : D) → Goes d [] [] d
  pub through : (a b c : D) (first rest : List Event) (told more : List Answer)
      → Goes a first told b → Goes b rest more c → Goes a (first ++ rest) (told ++ more) c
  pub one_each : (a b : D) (events : List Event) (answers : List Answer)
      → Goes a events answers b → length answers ≡ length events
  pub most_stays : (a b : D) (events : List Event) (answers : List Answer)
      → Goes a events answers b → most b ≡ most a
