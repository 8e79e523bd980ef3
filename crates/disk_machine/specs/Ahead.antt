-- What the device is to read before a READ of the host lacks it.
use Rattle.std.specs.Prelude.{◌≡◌, ℕ, Bool, true, false, []}
use Rattle.window.specs.Window.{state_of}
use Rattle.scsi_unit.specs.{Reading.AreHome, UnitValue.unit_limit}
use Rattle.disk_machine.specs.{Idling.is_pending, Machine.Machine, Moves.StaysSafe}
use Rattle.disk_machine.specs.Plays.{Disk, medium_of, unit_of}
use Rattle.window.specs.declared.asked.Asked.TheVariants as asked
use Rattle.disk_machine.specs.declared.lack.Lack.TheVariants as lack

-- The device is at no call, none waits for it, no command is pending, and since the last packet it
-- was not to read: so between two packets it reads ahead once.
pub record IsFree (s : Machine) : Type 0 where
  pub at_none : s.asked ≡ asked.Nothing
  pub none_waits : (medium_of s.disk).outbox ≡ []
  pub none_lacks : s.lack ≡ lack.Nothing
  pub none_pending : is_pending s.disk ≡ false

-- some sectors of the medium, and no more than one READ moves at most
abbrev pub AreReadable : Disk → ℕ → ℕ → Type 0
AreReadable disk first count =
    AreHome (unit_limit (unit_of disk)) (state_of (medium_of disk)).size first count

-- it will read them, or nothing changes
abbrev pub IsToRead : Machine → ℕ → ℕ → Machine → Bool → Type 0
IsToRead old first count new true =
    IsFree old × AreReadable old.disk first count
    × (new ≡ record old { lack = lack.Ahead (record { first = first; count = count }) })
IsToRead old first count new false =
    (¬ (IsFree old × AreReadable old.disk first count)) × (new ≡ old)

-- A device is to read these sectors if it is free, and each life is served on.
pub record LooksAhead (old : Machine) (first count : ℕ) (new : Machine) (reads : Bool)
    : Type 0 where
  pub one : IsToRead old first count new reads
  pub stays : StaysSafe old new
