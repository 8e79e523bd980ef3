-- The version that C is told.
use Rattle.std.specs.Prelude.{ℕ, ◌≡◌}

-- the version of the library, by two bytes for the first number and one for each other
abbrev pub VERSION : ℕ
VERSION = 0x010F00

-- (a clause that names VERSION itself would mean the constant of the source)
abbrev pub TellsVersion : ℕ → Type 0
TellsVersion code = code ≡ VERSION
