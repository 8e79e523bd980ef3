-- A device in the middle of what it was handed: of the writes in flight any part may be missing.
use Rattle.std.specs.Prelude.{◌≡◌, ◌≤◌, ℕ, List, ◌++◌, length, take, All, Contains}
use Rattle.medium.specs.Medium.{Image, CutLeaves}
use Rattle.window.specs.Device.{durable, after}
use Rattle.window.specs.OutboxMedium.{OutboxMedium, sent, state_of, CoversDevice}
use Rattle.window.specs.declared.call.DeviceCall.{DeviceCall}
use Rattle.window.specs.declared.call.DeviceCall.TheVariants.{Write, Flush}

abbrev pub IsWrite : DeviceCall → Type 0
IsWrite (Write w) = Unit {0}
IsWrite Flush = ⊥

-- A device that was handed these calls has carried out those: all up to a place behind which no
-- flush was handed, and of the writes behind it any, in any order.
pub record AreCarriedOut (handed done : List DeviceCall) : Type 0 where
  pub settled : List DeviceCall
  pub in_flight : List DeviceCall
  pub kept : List DeviceCall
  pub handed_are : handed ≡ settled ++ in_flight
  pub done_are : done ≡ settled ++ kept
  pub no_flush : All IsWrite in_flight
  pub among : All (Contains in_flight) kept

-- A device that was handed what was sent until the first moment, and any first part of what was
-- sent since, and has carried out any part of its writes in flight: what a cut leaves of it, a cut
-- of the medium since that moment could have left.
abbrev pub CoversParts : OutboxMedium → OutboxMedium → Type 0
CoversParts old new =
    (count : ℕ) (done : List DeviceCall) (image : Image) → length (sent old) ≤ count
    → AreCarriedOut (take count (sent new)) done
    → CutLeaves (after (durable new.story.opening) done).may_leave image
    → (state_of new).left_since (state_of old).calls image

-- where each first part is covered, each part is
abbrev pub PartsFollow : Type 0
PartsFollow = (old new : OutboxMedium) → CoversDevice old new → CoversParts old new
