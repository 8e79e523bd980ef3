-- No start and no event misses.
use Rattle.std.proofs.{Common.{◌<◌, ◌≤◌, ◌+◌, ℕ, length, inl, inr, arith, ap}, Math.Nat.{le-max_left, le-max_right}}
use Rattle.medium.specs.{Medium.State, Sent.sent, declared.fault.MediumFault.MediumFault}
use Rattle.journal.specs.{declared.log_format.LogFormat.LogFormat, declared.log_format.LogFormat.TheVariants.{One, Two}}
use Rattle.recovery.specs.{Causes.{IsDeviceFault, start_fault_of}, Calls.{most_start_sends, LooksAtLog}}
use Rattle.window.specs.{Window.{Window, state_of, ComesAfter, IsServed}, Looks.{near_in_sight, none_refused}}
use Rattle.scsi_unit.specs.{Calls.most_sends_of, StartFaults.StartFault}
use Rattle.bot_machine.specs.Opening.{IsNotOpened, StartLeaves}
use Rattle.usbdisk.specs.live.Ready.{room_of, RefusesNone, IsReadyToStart, HasRoomToStart}
use Rattle.medium.specs.declared.fault.MediumFault.TheVariants as kind

-- the room is enough for each event, and for a start
pub enough : (format : LogFormat) (slots : ℕ) → most_sends_of format ≤ room_of format slots
enough One slots = le-max_left 309 (most_start_sends One slots)
enough Two slots = le-max_left 1479 (most_start_sends Two slots)

enough_start : (format : LogFormat) (slots : ℕ) → most_start_sends format slots ≤ room_of format slots
enough_start One slots = le-max_right 309 (most_start_sends One slots)
enough_start Two slots = le-max_right 1479 (most_start_sends Two slots)

-- ---- a start

module _ (first after : Window) (ready : IsReadyToStart first) (leaves : StartLeaves (state_of first) (state_of after)) where
  fits_by : HasRoomToStart (state_of first).size (state_of first).content first.room
      → length first.outbox + sent (state_of after) ≤ sent (state_of first) + first.room
  fits_by (inl (shape, has, room)) =
      omega (arith, ap (λ l. length l) ready.empty, room, leaves.bounded.sends.most shape has, enough_start shape.format shape.slots)
  fits_by (inr (none, room)) = omega (arith, ap (λ l. length l) ready.empty, room, leaves.bounded.sends.none none)

  pub start_misses : ComesAfter first after → LooksAtLog (state_of first) (state_of after) → IsServed first after
      → RefusesNone first after
  start_misses follows looks served = none_refused (λ s. s < first.near) first after served (near_in_sight first)
      (looks first.near ready.log) (fits_by ready.room)

-- a call of this kind was refused
grew : (before after : State) (why : MediumFault) → IsNotOpened before after (start_fault_of why) → before.failures < after.failures
grew before after kind.Read not = elim not.cause [
  | inl cause ↦ elim cause [ inl refused ↦ refused.grew | inr none ↦ cc ]
  | inr none ↦ cc
]
grew before after _ not = elim not.cause [
  | inl cause ↦ elim cause [ inl refused ↦ refused.grew | inr none ↦ cc ]
  | inr none ↦ cc
]

pub by_image : (first after : Window) (fault : StartFault) → RefusesNone first after
    → IsNotOpened (state_of first) (state_of after) fault → ¬ IsDeviceFault fault
by_image first after fault misses not (why, is) =
    let named = rw is at not in
    absurd (omega (arith, misses, grew (state_of first) (state_of after) why named))
