-- What carrying out a command does to a unit over its medium, and to each book that the unit fits.
use Rattle.std.specs.Prelude.{◌≡◌, ◌⊎◌, ℕ, ◌≤◌, ◌+◌, nat_lt, ◌&&◌, ◌||◌, not, Bool, true, false}
use Rattle.std.specs.Prelude.{List, [], Option, Some, None, Result, Ok, Err, is_ok, if◌then◌else◌}
use Rattle.medium.specs.{Medium.State, Moments.{LeavesOnly, IsUnchanged}, Sent.SendsUpTo}
use Rattle.logical_blocks.specs.Book.{Book}
use Rattle.scsi.specs.{Sense.Sense, declared.command.Command.Command}
use Rattle.scsi.specs.{declared.command.Transfer.Transfer, Rules.{command_by, moves_blocks}}
use Rattle.scsi.specs.Rules.{reads_blocks, wants_writing, write_in_progress, CarriesOut, Ticks}
use Rattle.theorems.specs.Retiring.{finished}
use Rattle.blocks.specs.{Finding.{MayFind, FoundWith}, Calls.TurnsBatches, Headroom.KeepsHeadroom}
use Rattle.blocks.specs.{Looks.LooksAtLog, Work.{IsWork, LeavesBy}, declared.work.Work.Work}
use Rattle.blocks.specs.{Passing.MayEmpty, Running.ComesBy, StoreValue.{Cached, layout_of}}
use Rattle.blocks.specs.StoreValue.{blocks_of, is_dead, active_of, transfer_limit, FitsBeside}
use Rattle.blocks.specs.StoreValue.{TakesRange}
use Rattle.scsi_unit.specs.{Costs.CostsAfter, UnitValue.{UnitValue, unit_limit, state_of}}
use Rattle.scsi_unit.specs.UnitValue.{intention_of, FitsUnit}
use Rattle.scsi.specs.declared.command.Command.TheVariants as command
use Rattle.scsi.specs.declared.intent.Intent.TheVariants as intent

-- ---- a command

-- the medium refused a call between these two moments
abbrev pub has_refused : State → State → Bool
has_refused before after = nat_lt before.failures after.failures

-- A command block was carried out by a unit over its medium.
pub record Serves {M : Type 0} (before after : State) (block taken : List ℕ) (old : UnitValue M)
    (answer : Result (List ℕ) Sense) (new : UnitValue M) : Type 0 where
  -- one line of the rules, for each book that the unit fits
  pub line : (book : Book) → FitsUnit before old book
      → (next : Book)
      × CarriesOut (has_refused before after) block taken (state_of old book)
      answer (state_of new next)
      × FitsUnit after new next
  -- a cut at any moment of it leaves what may be found of the book, perhaps with the write in
  -- progress, whole
  pub cuts : (book : Book) → FitsUnit before old book → book.ours ≡ true
      → LeavesOnly (FoundWith before.size book (write_in_progress (state_of old book) block taken))
      before after
  pub failures_stay : before.failures ≤ after.failures
  pub size_stays : after.size ≡ before.size
  pub layout_stays : layout_of new.store.cached ≡ layout_of old.store.cached
  pub keeps_stays : new.store.cached.log.keeps ≡ old.store.cached.log.keeps
  pub blocks_stay : blocks_of new.store.cached ≡ blocks_of old.store.cached
  pub limit_stays : unit_limit new ≡ unit_limit old
  pub policy_stays : new.store.goes_ahead ≡ old.store.goes_ahead
  pub identity_stays : new.identity ≡ old.identity

-- ---- the calls of the medium that a command makes, and the batch that takes writes

-- the command of a block, or the sense with which the unit refuses it
abbrev pub command_for : {M : Type 0} → UnitValue M → List ℕ → Result Command Sense
command_for unit block =
    let cached = unit.store.cached in
    command_by (blocks_of cached) (unit_limit unit) unit.kept.attention (is_dead cached) block

-- the command reads blocks, writes blocks, or makes writes durable
abbrev pub wants_medium : Result Command Sense → List ℕ → Bool → Bool
wants_medium (Ok command) taken write_cache =
    reads_blocks command || wants_writing command taken write_cache
wants_medium (Err sense) taken write_cache = false

-- a WRITE of some blocks for the cache alone
abbrev pub is_plain : Transfer → Bool → Bool
is_plain transfer write_cache = moves_blocks transfer && (write_cache && not transfer.fua)

abbrev pub plain_write : Result Command Sense → Bool → Option Transfer
plain_write (Ok (command.Write10 transfer)) write_cache =
    if is_plain transfer write_cache then Some transfer else None
plain_write (Ok (command.Write16 transfer)) write_cache =
    if is_plain transfer write_cache then Some transfer else None
plain_write command write_cache = None

-- the numbers of the blocks in the batch that takes writes: those of before, or, where writes are
-- made durable, perhaps none
abbrev pub IsEmptied : Bool → List ℕ → List ℕ → Type 0
IsEmptied false old new = new ≡ old
IsEmptied true old new = MayEmpty old new

-- the same after a WRITE that moves blocks or none, and makes them durable or does not; a batch has
-- as many blocks as a transfer at most
abbrev pub IsWrittenTo : ℕ → Bool → Bool → Transfer → List ℕ → List ℕ → Type 0
IsWrittenTo limit false durable transfer old new = new ≡ old
IsWrittenTo limit true false transfer old new =
    TakesRange limit old transfer.address transfer.count new
IsWrittenTo limit true true transfer old new =
    TakesRange limit old transfer.address transfer.count new ⊎ (new ≡ [])

-- the same after a command, or after its refusal
abbrev pub ActiveAfter : ℕ → Result Command Sense → List ℕ → Bool → List ℕ → List ℕ → Type 0
ActiveAfter limit (Ok (command.Write10 transfer)) taken write_cache old new =
    IsWrittenTo limit (moves_blocks transfer) (transfer.fua || not write_cache) transfer old new
ActiveAfter limit (Ok (command.Write16 transfer)) taken write_cache old new =
    IsWrittenTo limit (moves_blocks transfer) (transfer.fua || not write_cache) transfer old new
ActiveAfter limit (Ok command) taken write_cache old new =
    IsEmptied (wants_writing command taken write_cache) old new
ActiveAfter limit (Err sense) taken write_cache old new = new ≡ old

-- Where writes are made durable the record of each batch is written, and none is retired but for
-- room, as the store's policy says; else nothing changes.
abbrev pub IsFinished : Bool → Bool → Cached → Cached → Type 0
IsFinished ahead false old new = new ≡ old
IsFinished ahead true old new =
    new.log ≡ finished ahead old.active (finished ahead old.frozen old.log)

-- a good write of the store, and then its writes are made durable or are not
pub record IsWrittenThrough (ahead durable : Bool) (transfer : Transfer) (old new : Cached)
    : Type 0 where
  pub mid : Cached
  pub turns : TurnsBatches ahead old mid transfer.address transfer.count
  pub takes : TakesRange (transfer_limit old) (active_of old) transfer.address transfer.count
      (active_of mid)
  pub finishes : IsFinished ahead durable mid new

-- the same after a WRITE that moves blocks or none
abbrev pub IsLoggedWrite : Bool → Bool → Bool → Transfer → Cached → Cached → Type 0
IsLoggedWrite ahead false durable transfer old new = new ≡ old
IsLoggedWrite ahead true durable transfer old new =
    IsWrittenThrough ahead durable transfer old new

-- the batches and the log after a good command
abbrev pub LogAfter : Bool → Result Command Sense → List ℕ → Bool → Cached → Cached → Type 0
LogAfter ahead (Ok (command.Write10 transfer)) taken write_cache old new =
    IsLoggedWrite ahead (moves_blocks transfer) (transfer.fua || not write_cache) transfer old new
LogAfter ahead (Ok (command.Write16 transfer)) taken write_cache old new =
    IsLoggedWrite ahead (moves_blocks transfer) (transfer.fua || not write_cache) transfer old new
LogAfter ahead (Ok command) taken write_cache old new =
    IsFinished ahead (wants_writing command taken write_cache) old new
LogAfter ahead (Err sense) taken write_cache old new = new ≡ old

-- Which calls of the medium a command makes: none that it does not need.
pub record IsSparing {M : Type 0} (before after : State) (block taken : List ℕ) (old : UnitValue M)
    (answer : Result (List ℕ) Sense) (new : UnitValue M) : Type 0 where
  -- a command that reads no blocks, writes none and makes none durable leaves the store as it is
  pub untouched : wants_medium (command_for old block) taken old.write_cache ≡ false
      → new.store ≡ old.store
  -- a plain WRITE that fits beside the batch that takes writes makes no call, and is good
  pub plain : (transfer : Transfer)
      → plain_write (command_for old block) old.write_cache ≡ Some transfer
      → FitsBeside (unit_limit old) (active_of old.store.cached) transfer.address transfer.count
      → (new.store.medium ≡ old.store.medium) × (is_ok answer ≡ true)
  pub active : is_dead new.store.cached ≡ false
      → ActiveAfter (unit_limit old) (command_for old block) taken old.write_cache
      (active_of old.store.cached) (active_of new.store.cached)
  -- a good one writes no record but those of its batches, and retires none but for room
  pub log : is_ok answer ≡ true
      → LogAfter old.store.goes_ahead (command_for old block) taken old.write_cache
      old.store.cached new.store.cached
  -- one that makes writes durable makes exactly the calls and the flushes for that
  pub cost : is_ok answer ≡ true
      → CostsAfter old.store.goes_ahead (command_for old block) taken old.write_cache before after
      old.store.cached
  -- where the unit goes ahead, a ring that was not full at the start never is
  pub headroom : KeepsHeadroom old.store new.store

-- ---- a step in the background

-- A step in the background was made by a unit over its medium, by what it works towards.
pub record TicksOver {M : Type 0} (work : Work) (before after : State) (old new : UnitValue M)
    : Type 0 where
  -- exactly one step of the store, by the order of its work
  pub step : IsWork work old.store.goes_ahead before after old.store.cached new.store.cached
  -- a faulted unit makes none
  pub faulted : is_dead old.store.cached ≡ true
      → (new.store.cached ≡ old.store.cached) × IsUnchanged before after
  -- a ring that was not full at the start never is, where the unit goes ahead
  pub headroom : KeepsHeadroom old.store new.store
  pub line : (book : Book) → FitsUnit before old book
      → Ticks (has_refused before after) (state_of old book) (state_of new book)
      × FitsUnit after new book
  pub cuts : (book : Book) → FitsUnit before old book → book.ours ≡ true
      → LeavesOnly (MayFind before.size book) before after
  pub failures_stay : before.failures ≤ after.failures
  pub size_stays : after.size ≡ before.size
  pub layout_stays : layout_of new.store.cached ≡ layout_of old.store.cached
  pub keeps_stays : new.store.cached.log.keeps ≡ old.store.cached.log.keeps
  pub blocks_stay : blocks_of new.store.cached ≡ blocks_of old.store.cached
  pub limit_stays : unit_limit new ≡ unit_limit old
  pub policy_stays : new.store.goes_ahead ≡ old.store.goes_ahead
  pub others_stay : new ≡ record old { store = new.store }
  -- no command comes to take data, or other data, by it; nor to send any
  pub steady : (block : List ℕ) (n : ℕ) → intention_of new block ≡ intent.Out n
      → intention_of old block ≡ intent.Out n
  pub steady_in : (block : List ℕ) (n : ℕ) → intention_of new block ≡ intent.In n
      → intention_of old block ≡ intent.In n
  -- at most two calls, and as many steps are left as such a step leaves
  pub few : after.calls ≤ before.calls + 2
  pub sent : SendsUpTo 2 before after
  -- no sector at home is read
  pub looks : LooksAtLog before after old.store.cached
  pub left : LeavesBy work old.store.cached new.store.cached
  pub active : MayEmpty (active_of old.store.cached) (active_of new.store.cached)

-- the same of a unit whose store comes after what it was
pub record WorksUnit {M : Type 0} (work : Work) (state : M → State) (Follows : M → M → Type 0)
    (old new : UnitValue M) : Type 0 where
  pub ticks : TicksOver work (state old.store.medium) (state new.store.medium) old new
  pub follows : ComesBy state Follows old.store new.store
