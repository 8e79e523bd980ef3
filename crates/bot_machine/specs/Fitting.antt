-- Packets that are not too long.
use Rattle.std.specs.Prelude.{⊤, ℕ, ◌≤◌, ◌<◌, List, length, All}
use Rattle.spec.specs.declared.event.Event.{Event}
use Rattle.spec.specs.declared.event.Event.TheVariants as happens
use Rattle.bot_machine.specs.declared.lives.life.Life.{Life}

-- A packet to Bulk-Out has at most this many bytes. By its type it has at most 512 of them, so that
-- a smaller size alone asks for something.
abbrev pub IsWithin : ℕ → Event → Type 0
IsWithin most (happens.Out packet) = most < 512 → length packet.items ≤ most
IsWithin most happens.In = ⊤
IsWithin most (happens.Setup packet) = ⊤
IsWithin most happens.Tick = ⊤

-- each packet of events
abbrev pub AreWithin : ℕ → List Event → Type 0
AreWithin most events = All (IsWithin most) events

-- each packet of lives
abbrev pub LivesAreWithin : ℕ → List Life → Type 0
LivesAreWithin most lives = All (λ (life : Life). AreWithin most life.events.items) lives
