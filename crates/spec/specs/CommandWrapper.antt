-- Command block wrappers, as bytes.
use Rattle.std.specs.Prelude.{◌≡◌, ◌≤◌, ◌<◌, ◌%◌, ℕ, List, [], ◌∷◌, length, take, drop, slice_index}
use Rattle.byteorder.specs.Endian.{little_number}
use Rattle.spec.specs.declared.way.Way.{Way}
use Rattle.spec.specs.declared.way.Way.TheVariants.{Nothing, In, Out}
use Rattle.spec.specs.declared.wrapper.Cbw.{Cbw}

-- "USBC"
abbrev pub command_signature : List ℕ
command_signature = 0x55 ∷ 0x53 ∷ 0x42 ∷ 0x43 ∷ []

-- the little-endian number of four bytes from a place on
abbrev pub field_at : List ℕ → ℕ → ℕ
field_at packet place = little_number 4 (drop place packet)

-- the host announces `announced` bytes; if there are any, bit 7 of `flags` is set if it reads them
abbrev pub Announces : ℕ → ℕ → Way → Type 0
Announces announced flags Nothing = announced ≡ 0
Announces announced flags (In n) = (announced ≡ n) × (0 < n) × (128 ≤ flags)
Announces announced flags (Out n) = (announced ≡ n) × (0 < n) × (flags < 128)

-- 31 bytes that begin with the signature
pub record IsValid (packet : List ℕ) : Type 0 where
  pub size : length packet ≡ 31
  pub signature : take 4 packet ≡ command_signature

-- no reserved bit is set, the unit is 0, and the command block has 1 to 16 bytes
pub record IsMeaningful (packet : List ℕ) : Type 0 where
  pub flags : slice_index packet 12 % 128 ≡ 0
  pub unit : slice_index packet 13 ≡ 0
  pub some_block : 0 < slice_index packet 14
  pub fitting_block : slice_index packet 14 ≤ 16

-- the packet is a valid and meaningful command block wrapper, and these are its fields
pub record SpellsCommand (packet : List ℕ) (wrapper : Cbw) : Type 0 where
  pub valid : IsValid packet
  pub meaningful : IsMeaningful packet
  pub tag : wrapper.tag ≡ field_at packet 4
  pub host : Announces (field_at packet 8) (slice_index packet 12) wrapper.host
  pub block : wrapper.block.items ≡ take (slice_index packet 14) (drop 15 packet)

-- the packet spells no command block wrapper
abbrev pub SpellsNone : List ℕ → Type 0
SpellsNone packet = (wrapper : Cbw) → SpellsCommand packet wrapper → ⊥
