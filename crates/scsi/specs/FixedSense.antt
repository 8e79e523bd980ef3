-- Sense data in fixed format (SPC-4 4.5.3).
use Rattle.std.specs.Prelude.{ℕ, List, [], ◌∷◌}
use Rattle.scsi.specs.declared.sense_key.SenseKey.{SenseKey}
use Rattle.scsi.specs.declared.sense_key.SenseKey.TheVariants.{NoSense, MediumError, HardwareError}
use Rattle.scsi.specs.declared.sense_key.SenseKey.TheVariants.{IllegalRequest, UnitAttention}
use Rattle.scsi.specs.Sense.{Sense}

-- the sense key as a number
abbrev pub key_number : SenseKey → ℕ
key_number NoSense = 0x0
key_number MediumError = 0x3
key_number HardwareError = 0x4
key_number IllegalRequest = 0x5
key_number UnitAttention = 0x6

-- the 18 bytes of a sense, each field after the number of its first byte
unfoldable pub fixed_sense : Sense → List ℕ
fixed_sense sense =
    -- 0, response code: a current error in fixed format
    0x70
    -- 1, obsolete
    ∷ 0
    -- 2, sense key
    ∷ key_number sense.key
    -- 3, information
    ∷ 0 ∷ 0 ∷ 0 ∷ 0
    -- 7, additional sense length: how many bytes follow
    ∷ 10
    -- 8, command-specific information
    ∷ 0 ∷ 0 ∷ 0 ∷ 0
    -- 12, additional sense code
    ∷ sense.code
    -- 13, additional sense code qualifier
    ∷ sense.qualifier
    -- 14, field replaceable unit code
    ∷ 0
    -- 15, sense key specific
    ∷ 0 ∷ 0 ∷ 0 ∷ []
