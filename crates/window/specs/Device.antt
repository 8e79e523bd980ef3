-- A device that carries out calls: what it holds, and what a loss of power may leave of it.
use Rattle.std.specs.Prelude.{◌≡◌, ◌⊎◌, ℕ, List, [], ◌∷◌, if◌then◌else◌, ◌==◌}
use Rattle.medium.specs.Medium.{Image, Sets}
use Rattle.medium.specs.Writes.{sector_of}
use Rattle.window.specs.declared.call.DeviceCall.{DeviceCall}
use Rattle.window.specs.declared.call.DeviceCall.TheVariants.{Write, Flush}

pub record Device : Type 1 where
  -- what it holds while the power is on
  pub content : Image
  -- what a cut now may leave in a sector
  pub may_leave : Sets

-- an image with these bytes in sector s
abbrev pub put : ℕ → List ℕ → Image → Image
put s bytes image t = if t == s then bytes else image t

-- a device on which these bytes are durable
abbrev pub durable : List ℕ → Device
durable bytes = record { content = sector_of bytes; may_leave = λ s c. c ≡ sector_of bytes s }

-- A cut may lose a write, of which it leaves all or nothing. After a flush it leaves what is held.
abbrev pub carried_out : Device → DeviceCall → Device
carried_out device (Write w) = record {
  content = put w.sector w.block device.content;
  may_leave = λ s c. device.may_leave s c ⊎ ((s ≡ w.sector) × (c ≡ w.block));
}
carried_out device Flush = record {
  content = device.content;
  may_leave = λ s c. c ≡ device.content s;
}

-- the device after these calls, in order
abbrev pub after : Device → List DeviceCall → Device
after device [] = device
after device (call ∷ calls) = after (carried_out device call) calls
