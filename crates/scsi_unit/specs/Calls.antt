-- How many calls of the medium a command makes at most: what its calls of the store add up to.
use Rattle.std.specs.Prelude.{◌≡◌, ◌≢◌, ℕ, ◌+◌, ◌*◌, ◌≤◌, ◌||◌, not, Bool, List, Result}
use Rattle.std.specs.Prelude.{Ok, Err, IfOk, Option, if◌then◌else◌}
use Rattle.medium.specs.{Medium.State, Sent.SendsUpTo}
-- handed on to the layers above
pub use Rattle.blocks.specs.OneBatch.{SendsOneBatch}
pub use Rattle.blocks.specs.Written.{IsWritten}
use Rattle.blocks.specs.Sent.{LogFormat, most_sent}
use Rattle.blocks.specs.StoreValue.{layout_of, slots_of, batch_steps, steps_left}
-- handed on to the layers above: each call is one that the log may make, or a read
pub use Rattle.blocks.specs.Running.{ComesBy}
pub use Rattle.blocks.specs.StoreValue.{Cached}
-- handed on to the layers above: one call for each block that no batch has
pub use Rattle.blocks.specs.Calls.{reads_of}
use Rattle.scsi.specs.{Sense.Sense, declared.command.{Command.Command, Transfer.Transfer}}
use Rattle.scsi.specs.Rules.{moves_blocks, forces_reading, clears, selected_by, Intention}
use Rattle.scsi.specs.declared.command.Command.TheVariants as command
use Rattle.scsi_unit.specs.UnitValue.{UnitValue, unit_limit, intention_of}
use Rattle.scsi_unit.specs.{Reading.{read_of, LooksToRead}, Serving.command_for}
use Rattle.scsi.specs.declared.intent.Intent.TheVariants as intent

-- making all accepted writes durable: two for each step that is left
abbrev pub calls_of_sync : Cached → ℕ
calls_of_sync cached = 2 * steps_left cached

-- a READ: those of each block that is in no batch; with FUA the batches are empty by then
abbrev pub calls_of_read : Transfer → Cached → ℕ
calls_of_read transfer cached =
    if forces_reading transfer then calls_of_sync cached + transfer.count
    else reads_of cached transfer.address transfer.count

-- a WRITE: those that make room for it; with FUA or without the cache it is made durable too: two
-- more for each step that a batch takes at most
abbrev pub calls_of_write : Transfer → Bool → Cached → ℕ
calls_of_write transfer write_cache cached =
    if not (moves_blocks transfer) then 0
    else if transfer.fua || not write_cache then calls_of_sync cached + 2 * batch_steps cached
    else calls_of_sync cached

-- a command, over the bytes taken for it
abbrev pub calls_of : Command → List ℕ → Bool → Cached → ℕ
calls_of (command.Read10 transfer) taken write_cache cached = calls_of_read transfer cached
calls_of (command.Read16 transfer) taken write_cache cached = calls_of_read transfer cached
calls_of (command.Write10 transfer) taken write_cache cached =
    calls_of_write transfer write_cache cached
calls_of (command.Write16 transfer) taken write_cache cached =
    calls_of_write transfer write_cache cached
calls_of (command.SynchronizeCache10 range) taken write_cache cached = calls_of_sync cached
calls_of (command.SynchronizeCache16 range) taken write_cache cached = calls_of_sync cached
calls_of (command.ModeSelect length) taken write_cache cached =
    if clears write_cache (selected_by length taken write_cache) then calls_of_sync cached else 0
calls_of command taken write_cache cached = 0

-- a command, or its refusal, which makes none
abbrev pub calls_after : Result Command Sense → List ℕ → Bool → Cached → ℕ
calls_after (Ok command) taken write_cache cached = calls_of command taken write_cache cached
calls_after (Err sense) taken write_cache cached = 0

-- A command block was carried out by no more calls than that. Where no record is left to write, one
-- batch at most is made durable.
pub record IsBounded {M : Type 0} (before after : State) (block taken : List ℕ) (old : UnitValue M)
    : Type 0 where
  pub most : after.calls
      ≤ before.calls + calls_after (command_for old block) taken old.write_cache old.store.cached
  pub one_batch : IsWritten old.store.cached
      → SendsOneBatch old.store.goes_ahead before after old.store.cached.log

-- The most that any command makes over `slots` slots, with at most `limit` blocks in a transfer:
-- two for each step that may be left and for each of one more batch, and two for each block of one
-- transfer.
abbrev pub most_calls_of : ℕ → ℕ → ℕ
most_calls_of slots limit = 2 * (slots + 5) * (2 * limit + 16) + 2 * limit

-- the most that any command of a unit makes, whatever the unit holds
abbrev pub most_calls : {M : Type 0} → UnitValue M → ℕ
most_calls unit = most_calls_of (slots_of unit.store.cached) (unit_limit unit)

-- The most writes and flushes that any command makes over a log of this format: a WRITE that does
-- not fit beside the batch that takes writes, and is made durable, makes three batches durable.
abbrev pub most_sends_of : LogFormat → ℕ
most_sends_of format = 3 * most_sent format

-- the most that any command of a unit makes, whatever the unit holds
abbrev pub most_sends : {M : Type 0} → UnitValue M → ℕ
most_sends unit = most_sends_of (layout_of unit.store.cached).format

-- A command that reads these blocks, or none, makes at most count calls, and no more writes and
-- flushes than any, those of one batch where no record is left to write. Its reads name no home
-- sector but theirs.
pub record MakesAtMost {M : Type 0} (count : ℕ) (read : Option Transfer) (before after : State)
    (old : UnitValue M) : Type 0 where
  pub calls : after.calls ≤ before.calls + count
  pub sent : SendsUpTo (most_sends old) before after
  pub one_batch : IsWritten old.store.cached
      → SendsOneBatch old.store.goes_ahead before after old.store.cached.log
  pub looks : LooksToRead before after old read

-- The calls of a command block: no more than its command makes, nor than any makes; and no more
-- writes and flushes than any makes. Each read names a sector of the log, or one of the home
-- sectors that `Unit::home_sectors` tells for it.
pub record MakesFew {M : Type 0} (before after : State) (block taken : List ℕ) (old : UnitValue M)
    : Type 0 where
  pub bounded : IsBounded before after block taken old
  pub few : after.calls ≤ before.calls + most_calls old
  pub sent : SendsUpTo (most_sends old) before after
  pub looks : LooksToRead before after old (read_of (command_for old block))

-- How many bytes a command sends: as many as it is meant to, and no more than a transfer has. One
-- that is not meant to send, as one that takes data, sends none.
pub record SendsAsMeant (intention : Intention) (limit : ℕ) (result : Result ℕ Sense) : Type 0 where
  pub sent : (n : ℕ) → intention ≡ intent.In n → IfOk result (λ sent. sent ≡ n)
  pub none : ((n : ℕ) → intention ≢ intent.In n) → IfOk result (λ sent. sent ≡ 0)
  pub most : IfOk result (λ sent. sent ≤ 512 * limit)

-- the same, and the store comes after what it was by this
pub record SendsOver {S : Type 0} (Comes : S → S → Type 0) (intention : Intention) (limit : ℕ)
    (result : Result ℕ Sense) (old new : S) : Type 0 where
  pub sends : SendsAsMeant intention limit result
  pub follows : Comes old new

-- What carrying out a command block passes on: how many calls it made, how many bytes it sends, and
-- the store, which comes after what it was.
pub record PassesOn {M : Type 0} (state : M → State) (Follows : M → M → Type 0)
    (block taken : List ℕ) (old : UnitValue M) (result : Result ℕ Sense) (new : UnitValue M)
    : Type 0 where
  pub calls : MakesFew (state old.store.medium) (state new.store.medium) block taken old
  pub sends : SendsAsMeant (intention_of old block) (unit_limit old) result
  pub follows : ComesBy state Follows old.store new.store
