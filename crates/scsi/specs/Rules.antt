-- The rules of the logical unit (SPC-4, SBC-3): which checks a command passes, what it intends to
-- move, what it answers, and what it leaves behind.
use Rattle.std.specs.Prelude.{◌≡◌, ◌⊎◌, ℕ, ◌*◌, ◌==◌, ◌&&◌, ◌||◌, not, min, Bool, true, false, List}
use Rattle.std.specs.Prelude.{[], take, Option, Some, None, unwrap_or, Result, Ok, Err}
use Rattle.std.specs.Prelude.{if◌then◌else◌}
use Rattle.logical_blocks.specs.Blocks.{Write}
use Rattle.logical_blocks.specs.Book.{Book, array_of, blocks_at, promised, with_write, write_of}
use Rattle.logical_blocks.specs.Book.{StampsOut}
use Rattle.logical_blocks.specs.Book.{with_progress}
use Rattle.scsi.specs.Sense.{Sense}
use Rattle.scsi.specs.SenseCodes.{power_on_or_reset_occurred, internal_target_failure}
use Rattle.scsi.specs.SenseCodes.{unrecovered_read_error, write_error}
use Rattle.scsi.specs.FixedSense.{fixed_sense}
use Rattle.scsi.specs.Waiting.{Waiting, after_failure, reported, after_report}
use Rattle.scsi.specs.declared.command.Command.{Command}
use Rattle.scsi.specs.declared.command.Transfer.{Transfer}
use Rattle.scsi.specs.Commands.{byte_at, command_of}
use Rattle.scsi.specs.Identification.{Identification}
use Rattle.scsi.specs.Inquiry.{inquiry_data, inquiry_size}
use Rattle.scsi.specs.ModePage.{mode_data, mode_select_answer}
use Rattle.scsi.specs.declared.intent.Intent.{Intent}
use Rattle.scsi.specs.Capacity.{capacity_10, capacity_16}
use Rattle.scsi.specs.declared.command.Command.TheVariants as command
use Rattle.scsi.specs.declared.intent.Intent.TheVariants as intent

-- a logical unit at one moment
pub record UnitState : Type 0 where
  -- the writes accepted so far, and how many of them are promised
  pub book : Book
  -- the most blocks of one READ or WRITE
  pub limit : ℕ
  pub identity : Identification
  -- what waits for REQUEST SENSE
  pub kept : Waiting
  -- WCE of the caching mode page: the write cache is enabled
  pub write_cache : Bool
  -- the unit cannot serve its medium until the next start
  pub faulted : Bool

-- a unit after its start: the unit attention is pending, no sense is kept, and WCE is 1
abbrev pub opened_unit : ℕ → Identification → Book → UnitState
opened_unit limit identity book = record {
  book = book;
  limit = limit;
  identity = identity;
  kept = record { sense = None; attention = true };
  write_cache = true;
  faulted = false;
}

-- ---- the checks of a command

-- INQUIRY and REQUEST SENSE are carried out while a unit attention is pending, no other command is
abbrev pub passes_attention : ℕ → Bool
passes_attention code = (code == 0x12) || (code == 0x03)

-- the commands that a faulted unit refuses
abbrev pub needs_medium : Command → Bool
needs_medium (command.RequestSense allocation) = false
needs_medium (command.Inquiry page allocation) = false
needs_medium (command.ModeSense control page subpage allocation) = false
needs_medium command = true

-- the last check: the unit is not faulted, or the command does not need the medium
abbrev pub checked_for_fault : Bool → Result Command Sense → Result Command Sense
checked_for_fault faulted (Ok command) =
    if faulted && needs_medium command then Err internal_target_failure else Ok command
checked_for_fault faulted (Err sense) = Err sense

-- The command of a command block, or the sense with which it is refused, by a unit with `blocks`
-- blocks, with at most `limit` in a transfer, with or without a pending unit attention, faulted or
-- not. The checks in order: the unit attention; what the table of commands says of the block; that
-- the unit is not faulted.
unfoldable pub command_by : ℕ → ℕ → Bool → Bool → List ℕ → Result Command Sense
command_by blocks limit attention faulted block =
    if attention && not (passes_attention (byte_at 0 block)) then Err power_on_or_reset_occurred
    else checked_for_fault faulted (command_of blocks limit block)

abbrev pub checked : UnitState → List ℕ → Result Command Sense
checked unit block = command_by unit.book.blocks unit.limit unit.kept.attention unit.faulted block

-- ---- the intention of a command

-- what a command is about to move, or the sense with which it is refused
abbrev pub Intention : Type 0
Intention = Intent Sense

-- `bytes` bytes to the initiator
abbrev pub sends : ℕ → Intention
sends bytes = if bytes == 0 then intent.None else intent.In bytes

-- `bytes` bytes from the initiator
abbrev pub takes : ℕ → Intention
takes bytes = if bytes == 0 then intent.None else intent.Out bytes

-- how many bytes a command is to move; an allocation length cuts what is sent
abbrev pub moves : Command → Intention
moves (command.RequestSense allocation) = sends (min allocation 18)
moves (command.Inquiry page allocation) = sends (min allocation (unwrap_or (inquiry_size page) 0))
moves (command.ModeSelect length) = takes length
moves (command.ModeSense control page subpage allocation) = sends (min allocation 24)
moves command.ReadCapacity10 = sends 8
moves (command.Read10 transfer) = sends (512 * transfer.count)
moves (command.Write10 transfer) = takes (512 * transfer.count)
moves (command.Read16 transfer) = sends (512 * transfer.count)
moves (command.Write16 transfer) = takes (512 * transfer.count)
moves (command.ReadCapacity16 allocation) = sends (min allocation 32)
moves command = intent.None

abbrev pub moves_after : Result Command Sense → Intention
moves_after (Ok command) = moves command
moves_after (Err sense) = intent.Fail sense

-- what a command block is about to move, or the sense with which it is refused
unfoldable pub intention_by : ℕ → ℕ → Bool → Bool → List ℕ → Intention
intention_by blocks limit attention faulted block =
    moves_after (command_by blocks limit attention faulted block)

abbrev pub intention : UnitState → List ℕ → Intention
intention unit block =
    intention_by unit.book.blocks unit.limit unit.kept.attention unit.faulted block

-- ---- the table of commands, where the medium refuses nothing and stamps are left

-- what a command does: the data that it sends or the sense with which it fails, and the unit after
-- it
pub record Effect : Type 0 where
  pub answer : Result (List ℕ) Sense
  pub after : UnitState

-- a command fails: its sense is kept in place of an earlier one
abbrev pub fails_with : Sense → UnitState → Effect
fails_with sense unit = record {
  answer = Err sense;
  after = record unit { kept = after_failure sense unit.kept };
}

-- a good command sends these data: the sense of an earlier one is dropped
abbrev pub gives : List ℕ → UnitState → Effect
gives bytes unit = record {
  answer = Ok bytes;
  after = record unit { kept = record unit.kept { sense = None } };
}

-- all accepted writes are promised
abbrev pub made_durable : UnitState → UnitState
made_durable unit = record unit { book = promised unit.book }

-- one more write is accepted
abbrev pub accepting : Write → UnitState → UnitState
accepting write unit = record unit { book = with_write unit.book write }

-- REQUEST SENSE: what it reports waits no longer, however short the allocation length
abbrev pub reports : ℕ → UnitState → Effect
reports allocation unit = record {
  answer = Ok (take allocation (fixed_sense (reported unit.kept)));
  after = record unit { kept = after_report unit.kept };
}

-- a transfer moves blocks
abbrev pub moves_blocks : Transfer → Bool
moves_blocks transfer = not (transfer.count == 0)

-- a READ that makes all accepted writes durable first
abbrev pub forces_reading : Transfer → Bool
forces_reading transfer = transfer.fua && moves_blocks transfer

-- READ: the blocks after all accepted writes
abbrev pub reads : Transfer → UnitState → Effect
reads transfer unit =
    gives (blocks_at (array_of unit.book) transfer.address transfer.count)
    (if forces_reading transfer then made_durable unit else unit)

-- the write of a WRITE over these bytes
abbrev pub write_by : Transfer → List ℕ → Write
write_by transfer taken = write_of transfer.address (take (512 * transfer.count) taken)

-- WRITE: one more write; with FUA or without the cache it is good when all are durable
abbrev pub writes : Transfer → List ℕ → UnitState → Effect
writes transfer taken unit =
    if not (moves_blocks transfer) then gives [] unit
    else if transfer.fua || not unit.write_cache
    then gives [] (made_durable (accepting (write_by transfer taken) unit))
    else gives [] (accepting (write_by transfer taken) unit)

-- WCE that a MODE SELECT with a list of this length asks for
abbrev pub selected_by : ℕ → List ℕ → Bool → Result Bool Sense
selected_by length taken write_cache = mode_select_answer (take length taken) write_cache

-- MODE SELECT takes WCE from 1 to 0
abbrev pub clears : Bool → Result Bool Sense → Bool
clears write_cache (Ok enabled) = write_cache && not enabled
clears write_cache (Err sense) = false

-- MODE SELECT: WCE as the list says; it goes from 1 to 0 when all accepted writes are durable
abbrev pub selects : Result Bool Sense → UnitState → Effect
selects (Ok enabled) unit =
    let enabling = record unit { write_cache = enabled } in
    gives [] (if clears unit.write_cache (Ok enabled) then made_durable enabling else enabling)
selects (Err sense) unit = fails_with sense unit

-- the table: what each command does, over the bytes taken for it
abbrev pub effect_of : Command → List ℕ → UnitState → Effect
effect_of command.TestUnitReady taken unit = gives [] unit
effect_of (command.RequestSense allocation) taken unit = reports allocation unit
effect_of (command.Inquiry page allocation) taken unit =
    gives (take allocation (unwrap_or (inquiry_data unit.identity unit.limit page) [])) unit
effect_of (command.ModeSelect length) taken unit =
    selects (selected_by length taken unit.write_cache) unit
effect_of (command.ModeSense control page subpage allocation) taken unit =
    gives (take allocation (mode_data control unit.write_cache)) unit
effect_of command.ReadCapacity10 taken unit = gives (capacity_10 unit.book.blocks) unit
effect_of (command.Read10 transfer) taken unit = reads transfer unit
effect_of (command.Write10 transfer) taken unit = writes transfer taken unit
effect_of (command.SynchronizeCache10 range) taken unit = gives [] (made_durable unit)
effect_of (command.Read16 transfer) taken unit = reads transfer unit
effect_of (command.Write16 transfer) taken unit = writes transfer taken unit
effect_of (command.SynchronizeCache16 range) taken unit = gives [] (made_durable unit)
effect_of (command.ReadCapacity16 allocation) taken unit =
    gives (take allocation (capacity_16 unit.book.blocks)) unit

-- ---- the commands that want the medium

-- the command reads blocks
abbrev pub reads_blocks : Command → Bool
reads_blocks (command.Read10 transfer) = moves_blocks transfer
reads_blocks (command.Read16 transfer) = moves_blocks transfer
reads_blocks command = false

-- the command writes blocks, or is good only when all accepted writes are durable
abbrev pub wants_writing : Command → List ℕ → Bool → Bool
wants_writing (command.Read10 transfer) taken write_cache = forces_reading transfer
wants_writing (command.Read16 transfer) taken write_cache = forces_reading transfer
wants_writing (command.Write10 transfer) taken write_cache = moves_blocks transfer
wants_writing (command.Write16 transfer) taken write_cache = moves_blocks transfer
wants_writing (command.SynchronizeCache10 range) taken write_cache = true
wants_writing (command.SynchronizeCache16 range) taken write_cache = true
wants_writing (command.ModeSelect length) taken write_cache =
    clears write_cache (selected_by length taken write_cache)
wants_writing command taken write_cache = false

-- the write of a transfer, if it moves blocks
abbrev pub some_write : Transfer → List ℕ → Option Write
some_write transfer taken = if moves_blocks transfer then Some (write_by transfer taken) else None

-- the write that a command appends, if it appends one
abbrev pub write_of_command : Command → List ℕ → Option Write
write_of_command (command.Write10 transfer) taken = some_write transfer taken
write_of_command (command.Write16 transfer) taken = some_write transfer taken
write_of_command command taken = None

abbrev pub write_after : Result Command Sense → List ℕ → Option Write
write_after (Ok command) taken = write_of_command command taken
write_after (Err sense) taken = None

-- the write that a command block appends, if it appends one
abbrev pub write_in_progress : UnitState → List ℕ → List ℕ → Option Write
write_in_progress unit block taken = write_after (checked unit block) taken

-- ---- what carrying out a command does, and what a step in the background does

-- the medium refused a call, or there is no stamp left for a write
abbrev pub MayFault : Bool → Book → Type 0
MayFault refused book = (refused ≡ true) ⊎ StampsOut book

-- what is done is what the table says
pub record IsByTable (effect : Effect) (answer : Result (List ℕ) Sense) (new : UnitState)
    : Type 0 where
  pub answered : answer ≡ effect.answer
  pub after : new ≡ effect.after

-- A command that reads blocks, and the medium refused a call: it fails, and only its sense is kept.
pub record IsReadError (refused reading : Bool) (old : UnitState) (answer : Result (List ℕ) Sense)
    (new : UnitState) : Type 0 where
  pub cause : refused ≡ true
  pub reads : reading ≡ true
  pub answered : answer ≡ Err unrecovered_read_error
  pub after : new ≡ (fails_with unrecovered_read_error old).after

-- A command that writes, or makes writes durable, faults the unit: it fails, WCE and the promises
-- stay, and its write is the last one accepted, or is not accepted.
pub record IsWriteError (refused writing : Bool) (write : Option Write) (old : UnitState)
    (answer : Result (List ℕ) Sense) (new : UnitState) : Type 0 where
  pub cause : MayFault refused (with_progress old.book write)
  pub writes : writing ≡ true
  pub answered : answer ≡ Err write_error
  pub book : Book
  pub accepted : (book ≡ old.book) ⊎ (book ≡ with_progress old.book write)
  pub after : new
      ≡ record old { book = book; kept = after_failure write_error old.kept; faulted = true }

-- what comes of a command, or of its refusal, over the bytes taken for it
abbrev pub IsOutcome : Bool → Result Command Sense → List ℕ → UnitState → Result (List ℕ) Sense
    → UnitState → Type 0
IsOutcome refused (Ok command) taken old answer new =
    IsByTable (effect_of command taken old) answer new
    ⊎ (IsReadError refused (reads_blocks command) old answer new
    ⊎ IsWriteError refused (wants_writing command taken old.write_cache)
    (write_of_command command taken) old answer new)
IsOutcome refused (Err sense) taken old answer new = IsByTable (fails_with sense old) answer new

-- A command block is carried out over the bytes taken for it: whether the medium refused a call in
-- that event, the unit before, the answer, and the unit after.
abbrev pub CarriesOut : Bool → List ℕ → List ℕ → UnitState → Result (List ℕ) Sense → UnitState
    → Type 0
CarriesOut refused block taken old answer new =
    IsOutcome refused (checked old block) taken old answer new

-- a step in the background faults the unit
pub record IsFaulted (refused : Bool) (old new : UnitState) : Type 0 where
  pub cause : MayFault refused old.book
  pub after : new ≡ record old { faulted = true }

-- a step in the background: whether the medium refused a call in it, the unit before and after
abbrev pub Ticks : Bool → UnitState → UnitState → Type 0
Ticks refused old new = (new ≡ old) ⊎ IsFaulted refused old new
