-- The sense that a logical unit keeps for REQUEST SENSE, and its pending unit attention.
use Rattle.std.specs.Prelude.{◌==◌, ◌&&◌, Bool, true, false, Option, Some, None, if◌then◌else◌}
use Rattle.std.specs.Prelude.{is_some}
use Rattle.scsi.specs.Sense.{Sense}
use Rattle.scsi.specs.SenseCodes.{no_sense, power_on_or_reset_occurred}
use Rattle.scsi.specs.FixedSense.{key_number}

-- what waits for REQUEST SENSE: a sense, or none, and perhaps a pending unit attention
pub record Waiting : Type 0 where
  pub sense : Option Sense
  pub attention : Bool

-- the sense is 6/29/00, that a power on or reset occurred
abbrev pub reports_reset : Sense → Bool
reports_reset sense =
    (key_number sense.key == 0x6) && (sense.code == 0x29) && (sense.qualifier == 0x00)

-- a command failed with a sense: it is kept, and 6/29/00 ends the unit attention
abbrev pub after_failure : Sense → Waiting → Waiting
after_failure sense waiting =
    record {
      sense = Some sense;
      attention = (if reports_reset sense then false else waiting.attention);
    }

-- what REQUEST SENSE reports: the kept sense, else the pending unit attention, else no sense
abbrev pub reported_of : Option Sense → Bool → Sense
reported_of (Some sense) attention = sense
reported_of None true = power_on_or_reset_occurred
reported_of None false = no_sense

abbrev pub reported : Waiting → Sense
reported waiting = reported_of waiting.sense waiting.attention

-- what then waits on: a unit attention behind a kept sense, else nothing
abbrev pub after_report : Waiting → Waiting
after_report waiting =
    record { sense = None; attention = is_some waiting.sense && waiting.attention }
