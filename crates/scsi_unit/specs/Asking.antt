-- What the parts of carrying out a command ask for.
use Rattle.std.specs.Prelude.{◌≡◌, ◌<◌, ◌≤◌, ◌*◌, ◌&&◌, ℕ, false, List, length}
use Rattle.blocks.specs.StoreValue.{Cached, blocks_of, transfer_limit, is_dead}
use Rattle.scsi_commands.specs.Supported.{IsSupported, IsWithin}
use Rattle.scsi.specs.declared.command.{Command.Command, Transfer.Transfer}
use Rattle.scsi.specs.Rules.{needs_medium, moves}
use Rattle.scsi.specs.declared.intent.Intent.TheVariants as intent
use Rattle.scsi_unit.specs.UnitValue.{UnitValue, unit_limit, intention_of}

-- the bytes taken for a command block, as many as it intends to take, and room for those that it
-- intends to send
pub record CanCarryOut {M : Type 0} (unit : UnitValue M) (block taken out : List ℕ)
    : Type 0 where
  pub taken_all : (n : ℕ) → intention_of unit block ≡ intent.Out n → length taken ≡ n
  pub room : (n : ℕ) → intention_of unit block ≡ intent.In n → n ≤ length out

-- a command that the unit does not refuse, the bytes taken for it, and room for what it sends
pub record CanPerform {M : Type 0} (unit : UnitValue M) (command : Command)
    (taken out : List ℕ) : Type 0 where
  pub served : (is_dead unit.store.cached && needs_medium command) ≡ false
  pub supported : IsSupported (blocks_of unit.store.cached) (unit_limit unit) command
  pub taken_all : (n : ℕ) → moves command ≡ intent.Out n → length taken ≡ n
  pub room : (n : ℕ) → moves command ≡ intent.In n → n ≤ length out

-- a READ that the unit does not refuse, and room for its blocks
pub record CanRead {M : Type 0} (unit : UnitValue M) (transfer : Transfer) (out : List ℕ)
    : Type 0 where
  pub live : is_dead unit.store.cached ≡ false
  pub within : IsWithin (blocks_of unit.store.cached) (unit_limit unit) transfer
  pub room : 512 * transfer.count ≤ length out

-- a WRITE that the unit does not refuse, and its blocks
pub record CanWrite {M : Type 0} (unit : UnitValue M) (transfer : Transfer) (taken : List ℕ)
    : Type 0 where
  pub live : is_dead unit.store.cached ≡ false
  pub within : IsWithin (blocks_of unit.store.cached) (unit_limit unit) transfer
  pub taken_all : 512 * transfer.count ≤ length taken

-- a MODE SELECT that the unit does not refuse, and its parameter list of this length
pub record CanSelect {M : Type 0} (unit : UnitValue M) (size : ℕ) (taken : List ℕ)
    : Type 0 where
  pub live : is_dead unit.store.cached ≡ false
  pub taken_all : size ≤ length taken

-- a transfer of some blocks of a store that is not dead
pub record CanTransfer (cached : Cached) (transfer : Transfer) : Type 0 where
  pub live : is_dead cached ≡ false
  pub some : 0 < transfer.count
  pub within : IsWithin (blocks_of cached) (transfer_limit cached) transfer
