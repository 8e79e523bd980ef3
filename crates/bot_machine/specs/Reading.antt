-- Which home sectors an event reads, and which sectors its reads name.
use Rattle.std.specs.Prelude.{◌≡◌, ◌⊎◌, ℕ, List, Option, Some, None, IfSome, false}
use Rattle.medium.specs.Medium.{State, LooksOnly}
use Rattle.spec.specs.{declared.wrapper.Cbw.Cbw, declared.case.Case.Case}
use Rattle.spec.specs.{declared.case.Case.TheVariants.{C5, C6}, Cases.IsCase}
use Rattle.spec.specs.{CommandWrapper.SpellsCommand, declared.event.Event.Event, Exchange.finished}
use Rattle.spec.specs.UnitConversation.{way_of}
use Rattle.scsi_unit.specs.Reading.{ReadsBack, first_home_of, home_sectors_of, read_of, IsOneOf}
use Rattle.scsi_unit.specs.Reading.{AreHome}
use Rattle.scsi_unit.specs.{Serving.command_for, UnitValue.{UnitValue, unit_limit, intention_of}}
use Rattle.scsi_unit.specs.declared.reading.HomeSectors.{HomeSectors}
use Rattle.spec.specs.declared.event.Event.TheVariants as happens
use Rattle.bot_machine.specs.{declared.exchange.Exchange.Exchange, DiskValue.DiskValue}

-- the home sectors of the blocks that a command block would have read
abbrev pub sectors_for : {M : Type 0} → UnitValue M → List ℕ → Option HomeSectors
sectors_for unit block = home_sectors_of (first_home_of unit) (read_of (command_for unit block))

-- a command that sends is carried out in cases 5 and 6 alone, in the event of its wrapper
abbrev pub sectors_in : Case → Option HomeSectors → Option HomeSectors
sectors_in C5 wanted = wanted
sectors_in C6 wanted = wanted
sectors_in case wanted = None

-- the home sectors of the blocks that an exchange reads at once, all of them on the medium
pub record ExchangeReads {M : Type 0} (m : State) (unit : UnitValue M) (exchange : Exchange)
    (wanted : Option HomeSectors) : Type 0 where
  pub is : wanted
      ≡ sectors_in exchange.case (sectors_for unit exchange.command.block.items)
  pub bounds : IfSome wanted (λ home. AreHome (unit_limit unit) m.size home.first home.count)

-- The packet spells a command wrapper whose command reads the blocks at these home sectors at once.
pub record WrapperReads {M : Type 0} (unit : UnitValue M) (packet : List ℕ) (wanted : HomeSectors)
    : Type 0 where
  pub command : Cbw
  pub spelled : SpellsCommand packet command
  pub case : Case
  pub is_case : IsCase case command.host (way_of (intention_of unit command.block.items))
  pub reads : sectors_in case (sectors_for unit command.block.items) ≡ Some wanted

-- it spells none that does
abbrev pub WrapperReadsNone : {M : Type 0} → UnitValue M → List ℕ → Type 0
WrapperReadsNone unit packet = (wanted : HomeSectors) → WrapperReads unit packet wanted → ⊥

-- A packet to Bulk-Out has the blocks at these home sectors read: it comes where a command wrapper
-- is expected, Bulk-Out is not halted, and the command that it spells reads them at once.
pub record ReadsHome {M : Type 0} (disk : DiskValue M) (packet : List ℕ) (wanted : HomeSectors)
    : Type 0 where
  pub unhalted : disk.line.out_halted ≡ false
  pub expected : disk.line.left ≡ finished
  pub wrapper : WrapperReads disk.unit packet wanted

-- a packet to Bulk-Out has no block read
abbrev pub ReadsNoHome : {M : Type 0} → DiskValue M → List ℕ → Type 0
ReadsNoHome disk packet = (wanted : HomeSectors) → ReadsHome disk packet wanted → ⊥

-- ---- which sectors the reads name

-- each read of a unit names a sector before the first home sector, if its log is read back, or one
-- at home of which this holds
abbrev pub LooksBesides : {M : Type 0} → (ℕ → Type 0) → State → State → UnitValue M → Type 0
LooksBesides At before after unit =
    LooksOnly (λ sector. ReadsBack unit sector ⊎ At sector) before after

-- one of the home sectors of the blocks that the wrapper in a packet has read at once
abbrev pub WrapperReadsAt : {M : Type 0} → UnitValue M → List ℕ → ℕ → Type 0
WrapperReadsAt unit packet sector =
    (home : HomeSectors) × WrapperReads unit packet home × IsOneOf (Some home) sector

-- one of the home sectors that an event has read: those that `Disk::home_sectors` tells for its
-- packet
abbrev pub ReadsAt : {M : Type 0} → DiskValue M → Event → ℕ → Type 0
ReadsAt disk (happens.Out packet) sector =
    (home : HomeSectors) × ReadsHome disk packet.items home × IsOneOf (Some home) sector
ReadsAt disk happens.In sector = ⊥
ReadsAt disk (happens.Setup packet) sector = ⊥
ReadsAt disk happens.Tick sector = ⊥

-- each read of an event names a sector before the first home sector, or one of these
abbrev pub LooksIn : {M : Type 0} → State → State → DiskValue M → Event → Type 0
LooksIn before after disk event = LooksBesides (ReadsAt disk event) before after disk.unit
