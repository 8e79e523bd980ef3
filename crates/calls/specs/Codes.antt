-- The numbers that C sees, beside those of the disk.
use Rattle.std.specs.Prelude.{ℕ}

-- the device has to carry out something before
abbrev pub BUSY : ℕ
BUSY = 12

-- no call of the device is under way
abbrev pub NOT_ASKED : ℕ
NOT_ASKED = 26

-- the handle holds something of another kind
abbrev pub OTHER_KIND : ℕ
OTHER_KIND = 27
