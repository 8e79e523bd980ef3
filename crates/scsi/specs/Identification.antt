-- The texts by which a disk is known.
use Rattle.std.specs.Prelude.{ℕ, ◌≤◌, List, All}

-- a printable ASCII character
abbrev pub IsPrintable : ℕ → Type 0
IsPrintable byte = (0x20 ≤ byte) × (byte ≤ 0x7e)

-- vendor identification, product identification, product revision level and unit serial number
pub record Identification : Type 0 where
  pub vendor : List ℕ
  pub product : List ℕ
  pub revision : List ℕ
  pub serial : List ℕ

-- every character of the texts is printable
pub record IsLegible (who : Identification) : Type 0 where
  pub vendor : All IsPrintable who.vendor
  pub product : All IsPrintable who.product
  pub revision : All IsPrintable who.revision
  pub serial : All IsPrintable who.serial
