-- What begins behind a recovery of the device: nothing more is read or written for it.
use Rattle.std.specs.Prelude.{◌-◌, ◌≡◌, ℕ, List, Result, Ok, Err, MatchResult}
use Rattle.window.specs.Window.{Window, state_of}
use Rattle.recovery.specs.declared.start_fault.StartFault.{StartFault}
use Rattle.recovery.specs.declared.start_fault.StartFault.TheVariants as start
use Rattle.store_calls.specs.MachineBehind.{IsMediumBehind}
use Rattle.store_calls.specs.MachineBehind as stores
use Rattle.store_calls.specs.StoreMachine as store
use Rattle.store_calls.specs.declared.recovered_device.RecoveredDevice.{RecoveredDevice}
use Rattle.bot_machine.specs.{Device.{Device, device_by, Kept}, Opening.DiskStartFromPost}
use Rattle.disk_machine.specs.{Machine.Machine, Room.room_of, Refusals.HoldsLog}
use Rattle.disk_machine.specs.Moves.{begun, ServesAtRest, LeavesOfStart, HasRoomBeside}
use Rattle.calls.specs.Handles.{Held}
use Rattle.calls.specs.declared.held.DiskPlan.{DiskPlan}
use Rattle.calls.specs.declared.held.Service.{Service}
use Rattle.calls.specs.declared.held.Service.TheVariants as service
use Rattle.calls.specs.declared.held.Held.TheVariants as held

-- one that keeps the records of its log
abbrev pub device_of : DiskPlan → Device
device_of plan = device_by plan.identity plan.size (Kept plan.kept)

-- A disk was started on a device that was recovered, and holds this behind its super. No call of
-- the device was made: a loss of power leaves what it held. If that is what the recovery left, the
-- disk serves what the image stood for. No step is refused a call for want of room.
pub record DiskBehindPost (on : RecoveredDevice) (content : List ℕ) (device : Device)
    (new : Machine) : Type 0 where
  pub first : Window
  pub medium : IsMediumBehind on content (room_of on.found.sizes.format) first
  pub starts : DiskStartFromPost state_of on.found first device new.disk.disk
  pub is : new ≡ begun new.disk.disk (first.room - 2)
  pub serves : ServesAtRest new
  pub leaves : LeavesOfStart first new
  pub beside : HasRoomBeside new
  -- no step is refused a read of its log
  pub holds : HoldsLog new.disk

-- so a store that keeps so many records
abbrev pub StoreBehindPost : RecoveredDevice → List ℕ → ℕ → store.Machine → Type 0
StoreBehindPost on content kept new = stores.BeginBehindPost on content kept new

-- it is there, or why not
abbrev pub held_disk : Service → Result Machine StartFault → Held
held_disk what (Ok s) = held.Disk s
held_disk what (Err why) = held.Failed what why

abbrev pub held_store : Service → Result store.Machine StartFault → Held
held_store what (Ok s) = held.Store s
held_store what (Err why) = held.Failed what why

-- A disk or a store begins, or there is no memory for it.
abbrev pub BeginBehindPost : List ℕ → Service → RecoveredDevice → Held → Type 0
BeginBehindPost content (service.Disk plan) on new = (result : Result Machine StartFault)
    × (new ≡ held_disk (service.Disk plan) result) × MatchResult result
    (DiskBehindPost on content (device_of plan)) (λ why. why ≡ start.NoMemory)
BeginBehindPost content (service.Store kept) on new = (result : Result store.Machine StartFault)
    × (new ≡ held_store (service.Store kept) result) × MatchResult result
    (StoreBehindPost on content kept) (λ why. why ≡ start.NoMemory)
