-- Which home sectors a command reads, and which sectors its reads name.
use Rattle.std.specs.Prelude.{ℕ, ◌+◌, ◌<◌, ◌≤◌, ◌⊎◌, Option, Some, None, Result, Ok, Err}
use Rattle.std.specs.Prelude.{if◌then◌else◌}
use Rattle.medium.specs.Medium.{State, LooksOnly}
use Rattle.scsi.specs.{Sense.Sense, declared.command.Command.Command}
use Rattle.scsi.specs.{declared.command.Transfer.Transfer, Rules.moves_blocks}
use Rattle.scsi.specs.declared.command.Command.TheVariants as command
use Rattle.blocks.specs.{Looks.IsReadBack, StoreValue.layout_of}
use Rattle.scsi_unit.specs.{UnitValue.UnitValue, declared.reading.HomeSectors.HomeSectors}

-- what a READ of some blocks moves
abbrev pub some_read : Transfer → Option Transfer
some_read transfer = if moves_blocks transfer then Some transfer else None

-- what a command reads, where it is a READ of some blocks and was not refused
abbrev pub read_of : Result Command Sense → Option Transfer
read_of (Ok (command.Read10 transfer)) = some_read transfer
read_of (Ok (command.Read16 transfer)) = some_read transfer
read_of (Ok command) = None
read_of (Err sense) = None

-- the sector of block 0
abbrev pub first_home_of : {M : Type 0} → UnitValue M → ℕ
first_home_of unit = (layout_of unit.store.cached).home

-- the home sectors of the blocks that are read
abbrev pub home_sectors_of : ℕ → Option Transfer → Option HomeSectors
home_sectors_of home None = None
home_sectors_of home (Some transfer) =
    Some (record { first = home + transfer.address; count = transfer.count })

-- one of these home sectors
abbrev pub IsOneOf : Option HomeSectors → ℕ → Type 0
IsOneOf None sector = ⊥
IsOneOf (Some wanted) sector = (wanted.first ≤ sector) × (sector < wanted.first + wanted.count)

-- a sector before the first home sector, so one of the super, the head or the log, of a unit that
-- reads its log back
abbrev pub ReadsBack : {M : Type 0} → UnitValue M → ℕ → Type 0
ReadsBack unit sector = IsReadBack unit.store.cached.log sector

-- such a sector, or one of these
abbrev pub ReadsBackOr : {M : Type 0} → UnitValue M → Option HomeSectors → ℕ → Type 0
ReadsBackOr unit wanted sector = ReadsBack unit sector ⊎ IsOneOf wanted sector

-- each read that a unit made names such a sector
abbrev pub LooksAt : {M : Type 0} → State → State → UnitValue M → Option HomeSectors → Type 0
LooksAt before after unit wanted = LooksOnly (ReadsBackOr unit wanted) before after

-- each names a sector of the log, or the home of a block that is read
abbrev pub LooksToRead : {M : Type 0} → State → State → UnitValue M → Option Transfer → Type 0
LooksToRead before after unit read =
    LooksAt before after unit (home_sectors_of (first_home_of unit) read)

-- Some sectors of a medium of this size, no more than one transfer reads.
pub record AreHome (limit size first count : ℕ) : Type 0 where
  pub some : 0 < count
  pub few : count ≤ limit
  pub on_medium : first + count ≤ size
