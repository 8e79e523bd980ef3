-- How a medium that reads on demand is kept.
use Rattle.std.specs.Prelude.{◌≡◌, ◌≤◌, ◌<◌, ◌*◌, ◌/◌, ◌+◌, ℕ, length}
use Rattle.medium.specs.Writes.{sector_of}
use Rattle.window.specs.OutboxMedium.{device_of}
use Rattle.window.specs.Window.{Window, IsWellFormed}
use Rattle.window.specs.declared.window.WindowMedium.TheInside.{Inside}

abbrev pub view_of : Inside → Window
view_of m = record {
  seen = m.story.seen;
  outbox = m.outbox.items;
  room = m.outbox.room;
  near = length m.near.bytes.items / 512;
  from = m.pane.from;
  held = m.pane.held;
  span = length m.pane.sectors.bytes.items / 512;
}

pub record Invariant (m : Inside) : Type 0 where
  pub well_formed : IsWellFormed (view_of m)
  -- the first sectors are as the device holds them when it has carried out all
  pub mirrors : (s : ℕ) → s < length m.near.bytes.items / 512
      → sector_of m.near.bytes.items s ≡ (device_of m.story.seen.told).content s
  -- and those in the window too
  pub pane : (i : ℕ) → i < m.pane.held
      → sector_of m.pane.sectors.bytes.items i ≡ (device_of m.story.seen.told).content
      (m.pane.from + i)
  pub size_is : length m.story.seen.told.opening ≡ 512 * m.size
  pub inside : m.pane.from + m.pane.held ≤ m.size
