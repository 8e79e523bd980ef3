-- How a machine starts on a device whose image was recovered.
use Rattle.std.specs.Prelude.{◌≡◌, ℕ, List, true}
use Rattle.medium.specs.Moments.{IsFlushed}
use Rattle.journal.specs.{Formats.shape_of, Sectors.IsSuper}
use Rattle.window.specs.Window.{Window, state_of, fresh}
use Rattle.blocks.specs.{Started.StartFromPost, declared.start.Keeping.TheVariants.Kept}
use Rattle.store_calls.specs.{Rooms.{room_of, HoldsLog, IsRoomy}, StoreMachine.Machine}
use Rattle.store_calls.specs.{Serving.{BeginsOver, LeavesSince}, Supers.span_of}
use Rattle.store_calls.specs.declared.recovered_device.RecoveredDevice.{RecoveredDevice}

-- The medium of a device that holds this behind the super of what was found: the super alone lies
-- in its memory, and nothing was done to it.
pub record IsMediumBehind (on : RecoveredDevice) (holds : List ℕ) (room : ℕ) (m : Window)
    : Type 0 where
  pub near : List ℕ
  pub super : IsSuper (shape_of on.found.sizes) near
  pub is : m ≡ fresh on.sectors near holds (span_of on.found.sizes.format) room
  pub sized : (state_of m).size ≡ on.sectors
  pub flushed : IsFlushed (state_of m)

-- A machine was started over a store that keeps the blocks of so many records at most. No call of
-- the device was made: a loss of power leaves what it held. If that is what the recovery left, the
-- store serves what the image stood for.
pub record BeginBehindPost (on : RecoveredDevice) (holds : List ℕ) (kept : ℕ) (new : Machine)
    : Type 0 where
  pub first : Window
  pub medium : IsMediumBehind on holds (room_of on.found.sizes.format) first
  pub store : StartFromPost (Kept kept) true state_of on.found first new.store
  pub begun : BeginsOver new.store new
  pub leaves : LeavesSince first new
  pub holds_log : HoldsLog new.store
  pub roomy : IsRoomy new.store
