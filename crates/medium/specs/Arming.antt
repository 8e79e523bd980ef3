-- What calls alone do to the faults that are armed in a medium in memory, however many there are.
use Rattle.std.specs.Prelude.{◌≡◌, ◌<◌, ℕ, ◌+◌, ◌-◌, Some, None, false, if◌then◌else◌, nat_lt}
use Rattle.std.specs.Prelude.{length}
use Rattle.medium.specs.Power.{faults_in}
use Rattle.medium.specs.Sim.{Sim, ComesAfter}
use Rattle.medium.specs.Tally.{Tally, of_all}

-- how many writes and flushes
abbrev pub changes : Tally → ℕ
changes r = r.writes + r.flushes

-- A fuse that is armed falls by the writes and flushes that happened: those that were made, but for
-- those that were refused.
abbrev pub FuseFalls : Type 0
FuseFalls = (old new : Sim) (writes : ℕ) → ComesAfter old new → old.power.fuse ≡ Some writes
    → (left : ℕ) × (new.power.fuse ≡ Some left)
    × (left + changes new.made + changes old.refused
    ≡ writes + changes old.made + changes new.refused)

-- A failure that is armed counts down with the calls, up to the one that fails.
abbrev pub FailureCountsDown : Type 0
FailureCountsDown = (old new : Sim) (call : ℕ) → ComesAfter old new → 0 < call
    → old.power.fail ≡ Some call
    → new.power.fail ≡ (if nat_lt new.calls (old.calls + call)
    then Some (old.calls + call - new.calls) else None)

-- Where the power is on and nothing is armed, nothing is armed afterwards, and no call is refused
-- but for want of room.
pub record RefusesNothing (old new : Sim) : Type 0 where
  pub power_stays : new.power ≡ old.power
  pub none_refused : new.without_room ≡ old.without_room
      → of_all new.refused ≡ of_all old.refused

abbrev pub UnarmedRefusesNothing : Type 0
UnarmedRefusesNothing = (old new : Sim) → ComesAfter old new → old.power.off ≡ false
    → faults_in old.power ≡ 0 → RefusesNothing old new

-- How many bytes there are stays, and for how many unflushed writes there is room.
pub record KeepsSizes (old new : Sim) : Type 0 where
  pub bytes : length new.flushed ≡ length old.flushed
  pub room : new.room ≡ old.room

abbrev pub SizesStay : Type 0
SizesStay = (old new : Sim) → ComesAfter old new → KeepsSizes old new
