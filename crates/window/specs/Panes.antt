-- The sectors that were shown last.
use Rattle.std.specs.Prelude.{◌≡◌, ◌+◌, ◌-◌, ◌*◌, ◌<◌, ◌≤◌, ℕ, List, length}
use Rattle.medium.specs.Writes.{sector_of}
use Rattle.window.specs.Window.{laid_over}
use Rattle.window.specs.declared.call.DeviceCall.{DeviceCall}
use Rattle.window.specs.declared.pane.Pane.{Pane}

-- Each sector is as these calls leave it, in order, and lies where it lay, in the same room.
pub record AreLaid (calls : List DeviceCall) (old new : Pane) : Type 0 where
  pub bytes : (i : ℕ) → i < old.held → sector_of new.sectors.bytes.items i
      ≡ laid_over calls (old.from + i) (sector_of old.sectors.bytes.items i)
  pub room : length new.sectors.bytes.items ≡ length old.sectors.bytes.items
  pub from : new.from ≡ old.from
  pub held : new.held ≡ old.held

-- so many bytes of sectors from the first on lie in it
pub record LiesIn (pane : Pane) (first bytes : ℕ) : Type 0 where
  pub from : pane.from ≤ first
  pub inside : 512 * (first - pane.from) + bytes ≤ length pane.sectors.bytes.items
