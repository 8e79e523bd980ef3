-- A command that is not over: what it may want, which books the unit fits meanwhile, and how it
-- comes to its end.
use Rattle.std.specs.Prelude.{⊤, ◌≡◌, ◌≢◌, ◌⊎◌, ◌↔◌, ◌<◌, ◌≤◌, ◌+◌, ℕ, Bool, true, false, IsTrue}
use Rattle.std.specs.Prelude.{List, length, Option, Some, None, Result, Ok, Err, IfOk, ◌||◌, not}
use Rattle.std.specs.Prelude.{if◌then◌else◌}
use Rattle.medium.specs.{Medium.State, Moments.{EachCut, LeavesOnly, IsUnchanged}, Sent.SendsUpTo}
use Rattle.logical_blocks.specs.{Blocks.Write, Book.{Book, with_progress}}
use Rattle.scsi.specs.{Sense.Sense, declared.command.Command.Command, Waiting.Waiting}
use Rattle.scsi.specs.{declared.command.Transfer.Transfer, Rules.{forces_reading, moves_blocks}}
use Rattle.scsi.specs.Rules.{reads_blocks, selected_by, clears, moves, write_of_command}
use Rattle.scsi.specs.Rules.{checked_for_fault, IsOutcome, command_by, wants_writing, UnitState}
use Rattle.scsi.specs.{Rules.{Ticks, checked}, SenseCodes.write_error}
use Rattle.blocks.specs.{Finding.{FoundWith, MayFind}, Prepared.IsTakenAtOnce, Running.ComesBy}
use Rattle.blocks.specs.{Turns.GoesOn, Written.IsWritten, declared.work.Work.Work}
use Rattle.blocks.specs.StoreValue.{blocks_of, is_dead, steps_left}
use Rattle.scsi_commands.specs.Supported.{IsSupported}
use Rattle.scsi_unit.specs.UnitValue.{UnitValue, unit_limit, state_of, answer_of, FitsUnit}
use Rattle.scsi_unit.specs.{Calls.SendsAsMeant, Promising.forces_writing}
use Rattle.scsi_unit.specs.Reading.{LooksToRead, first_home_of, home_sectors_of, read_of}
use Rattle.scsi_unit.specs.{Serving.{has_refused, WorksUnit, command_for}, declared.need.Need.Need}
use Rattle.scsi_unit.specs.declared.progress.{Progress.Progress, Want.Want}
use Rattle.scsi_unit.specs.declared.progress.Progress.TheVariants.{Done, Wants}
use Rattle.scsi.specs.declared.command.Command.TheVariants as command
use Rattle.scsi.specs.declared.intent.Intent.TheVariants as intent
use Rattle.scsi_unit.specs.declared.progress.Want.TheVariants as want

-- ---- what a command may want

-- what a READ or a WRITE moves; any other command moves no blocks
abbrev pub transfer_of : Command → Transfer
transfer_of (command.Read10 transfer) = transfer
transfer_of (command.Read16 transfer) = transfer
transfer_of (command.Write10 transfer) = transfer
transfer_of (command.Write16 transfer) = transfer
transfer_of command = record { address = 0; count = 0; fua = false }

-- it is a WRITE of some blocks
abbrev pub writes_blocks : Command → Bool
writes_blocks (command.Write10 transfer) = moves_blocks transfer
writes_blocks (command.Write16 transfer) = moves_blocks transfer
writes_blocks command = false

-- its good answer promises all accepted writes
abbrev pub commits : Command → List ℕ → Bool → Bool
commits (command.Read10 transfer) taken write_cache = forces_reading transfer
commits (command.Read16 transfer) taken write_cache = forces_reading transfer
commits (command.Write10 transfer) taken write_cache = forces_writing transfer write_cache
commits (command.Write16 transfer) taken write_cache = forces_writing transfer write_cache
commits (command.SynchronizeCache10 range) taken write_cache = true
commits (command.SynchronizeCache16 range) taken write_cache = true
commits (command.ModeSelect length) taken write_cache =
    clears write_cache (selected_by length taken write_cache)
commits command taken write_cache = false

-- what it may want: a WRITE room, one that promises a commit, a READ its blocks
abbrev pub may_want : Want → Command → List ℕ → Bool → Bool
may_want want.Room command taken write_cache = writes_blocks command
may_want want.Commit command taken write_cache = commits command taken write_cache
may_want want.Read command taken write_cache = reads_blocks command

-- what it wants first, if it wants something
abbrev pub first_want : Command → List ℕ → Bool → Option Want
first_want command taken write_cache =
    if writes_blocks command then Some want.Room
    else if commits command taken write_cache then Some want.Commit
    else if reads_blocks command then Some want.Read
    else None

-- ---- the books that the unit fits meanwhile

-- A commit is wanted: a WRITE is accepted by then, and its store lives.
pub record FitsCommit {M : Type 0} (m : State) (unit : UnitValue M) (command : Command)
    (taken : List ℕ) (book : Book) : Type 0 where
  pub fits : FitsUnit m unit (with_progress book (write_of_command command taken))
  pub live : writes_blocks command ≡ true → is_dead unit.store.cached ≡ false

-- Blocks are wanted: a READ that promises has made all accepted writes durable by then.
pub record FitsRead {M : Type 0} (m : State) (unit : UnitValue M) (command : Command)
    (taken : List ℕ) (book : Book) : Type 0 where
  pub fits : FitsUnit m unit book
  pub written : commits command taken unit.write_cache ≡ true → IsWritten unit.store.cached

-- the write that a batch has already: that of a WRITE that wants its commit
abbrev pub write_held : Want → Command → List ℕ → Option Write
write_held want.Commit command taken = write_of_command command taken
write_held wanted command taken = None

-- the book that the unit fits, where this is the one before the command
abbrev pub book_held : Want → Command → List ℕ → Book → Book
book_held wanted command taken book = with_progress book (write_held wanted command taken)

-- the book is the one before the command
abbrev pub FitsPending : {M : Type 0} → State → UnitValue M → Command → List ℕ → Want → Book
    → Type 0
FitsPending m unit command taken want.Room book = FitsUnit m unit book
FitsPending m unit command taken want.Commit book = FitsCommit m unit command taken book
FitsPending m unit command taken want.Read book = FitsRead m unit command taken book

-- ---- how it comes to its end

-- It is over: one line of the rules, of the unit as it was before this step. The check for a fault
-- is made anew, since a step in the background may have faulted the unit.
abbrev pub HasEnded : {M : Type 0} → State → State → Result Command Sense → List ℕ → UnitValue M
    → Result (List ℕ) Sense → UnitValue M → Book → Type 0
HasEnded before after told taken old answer new book =
    (next : Book)
    × IsOutcome (has_refused before after) (checked_for_fault (is_dead old.store.cached) told) taken
    (state_of old book) answer (state_of new next)
    × FitsUnit after new next

-- it is not over, and by the rules the unit is as it was
pub record IsPending {M : Type 0} (after : State) (command : Command) (taken : List ℕ)
    (want : Want) (old new : UnitValue M) (book : Book) : Type 0 where
  pub stays : state_of new book ≡ state_of old book
  pub fits : FitsPending after new command taken want book
  pub wanted : may_want want command taken new.write_cache ≡ true

-- one of both; a command that was refused is over
abbrev pub HasProgressed : {M : Type 0} → State → State → Result Command Sense → List ℕ
    → UnitValue M → Progress → List ℕ → UnitValue M → Book → Type 0
HasProgressed before after told taken old (Done result) out new book =
    HasEnded before after told taken old (answer_of result out) new book
HasProgressed before after (Ok command) taken old (Wants want) out new book =
    IsPending after command taken want old new book
HasProgressed before after (Err sense) taken old (Wants want) out new book = ⊥

-- how many bytes it sends; one that was refused sends none
abbrev pub SendsWhenDone : Result Command Sense → ℕ → Progress → Type 0
SendsWhenDone (Ok command) limit (Done result) = SendsAsMeant (moves command) limit result
SendsWhenDone (Err sense) limit (Done result) = IfOk result (λ sent. sent ≡ 0)
SendsWhenDone told limit (Wants want) = ⊤

-- ---- a step of it

-- the unit may carry out a command that was parsed; one that was refused it may always
abbrev pub IsServable : {M : Type 0} → UnitValue M → Result Command Sense → Type 0
IsServable unit parsed = IfOk parsed (IsSupported (blocks_of unit.store.cached) (unit_limit unit))

-- the bytes taken for a command
abbrev pub TakesAll : Command → List ℕ → Type 0
TakesAll command taken = (n : ℕ) → moves command ≡ intent.Out n → length taken ≡ n

-- a command that the unit may carry out, the bytes taken for it, and what it may want
pub record CanWant {M : Type 0} (unit : UnitValue M) (command : Command) (want : Want)
    (taken : List ℕ) : Type 0 where
  pub supported : IsSupported (blocks_of unit.store.cached) (unit_limit unit) command
  pub taken_all : TakesAll command taken
  pub wanted : may_want want command taken unit.write_cache ≡ true

-- a command that the unit may carry out, the bytes taken for it, and room for what it sends
pub record CanServe {M : Type 0} (unit : UnitValue M) (command : Command) (taken out : List ℕ)
    : Type 0 where
  pub supported : IsSupported (blocks_of unit.store.cached) (unit_limit unit) command
  pub taken_all : TakesAll command taken
  pub room : (n : ℕ) → moves command ≡ intent.In n → n ≤ length out

-- the same, and what it may want
pub record CanGoOn {M : Type 0} (unit : UnitValue M) (command : Command) (want : Want)
    (taken out : List ℕ) : Type 0 where
  pub wants : CanWant unit command want taken
  pub room : (n : ℕ) → moves command ≡ intent.In n → n ≤ length out

-- a command that was parsed, or its refusal, begins: the same
abbrev pub CanBegin : {M : Type 0} → UnitValue M → Result Command Sense → List ℕ → List ℕ → Type 0
CanBegin unit (Ok command) taken out = CanServe unit command taken out
CanBegin unit (Err sense) taken out = ⊤

-- how many calls it makes at most, and how many writes and flushes among them
abbrev pub calls_for : Want → Command → ℕ
calls_for want.Read command = (transfer_of command).count
calls_for want command = 2

abbrev pub sends_for : Want → ℕ
sends_for want.Read = 0
sends_for want = 2

-- the home sectors that it reads
abbrev pub read_for : Want → Command → Option Transfer
read_for want.Read command = read_of (Ok command)
read_for want command = None

pub record StepCalls {M : Type 0} (before after : State) (command : Command) (want : Want)
    (old : UnitValue M) : Type 0 where
  pub calls : after.calls ≤ before.calls + calls_for want command
  pub sent : SendsUpTo (sends_for want) before after
  pub looks : LooksToRead before after old (read_for want command)

-- what no step changes
pub record StepKeeps {M : Type 0} (state : M → State) (Follows : M → M → Type 0)
    (old new : UnitValue M) : Type 0 where
  pub goes_on : GoesOn (state old.store.medium) (state new.store.medium)
      old.store.cached new.store.cached
  pub identity : new.identity ≡ old.identity
  pub policy : new.store.goes_ahead ≡ old.store.goes_ahead
  pub follows : ComesBy state Follows old.store new.store

-- It is not over: the unit lives, only its store has changed, and the command may want this next.
pub record StaysWanting {M : Type 0} (command : Command) (taken : List ℕ) (next : Want)
    (old new : UnitValue M) : Type 0 where
  pub live : is_dead new.store.cached ≡ false
  pub others : new ≡ record old { store = new.store }
  pub wanted : may_want next command taken new.write_cache ≡ true

-- a command that was refused wants nothing
abbrev pub BeginsWanting : {M : Type 0} → Result Command Sense → List ℕ → Want → UnitValue M
    → UnitValue M → Type 0
BeginsWanting (Ok command) taken next old new = StaysWanting command taken next old new
BeginsWanting (Err sense) taken next old new = ⊥

-- what it wants can be had by no call of the medium
abbrev pub IsHadAtOnce : {M : Type 0} → UnitValue M → Command → Want → Type 0
IsHadAtOnce unit command want.Room =
    IsTakenAtOnce unit.store.cached (transfer_of command).address (transfer_of command).count
IsHadAtOnce unit command want.Commit = IsWritten unit.store.cached
IsHadAtOnce unit command want.Read = ⊥

-- What comes of a step: an end, the same again, or what is wanted behind it. A commit is wanted
-- behind room, and blocks are wanted last.
abbrev pub may_follow : Progress → Want → Bool
may_follow (Wants want.Room) want.Commit = false
may_follow (Wants next) want.Read = false
may_follow progress want = true

-- The next step may be the one that promises all accepted writes: none is left to write then.
abbrev pub MayPromise : {M : Type 0} → UnitValue M → Command → Want → Type 0
MayPromise unit command want.Room = ⊥
MayPromise unit command want.Commit = IsWritten unit.store.cached
MayPromise unit command want.Read = forces_reading (transfer_of command) ≡ true

-- What the device has to do before the next step: to carry out all calls, where the step may
-- promise; and to show these home sectors, where it reads them.
pub record IsNeeded {M : Type 0} (unit : UnitValue M) (command : Command) (wanted : Want)
    (told : Need) : Type 0 where
  pub all_done : IsTrue told.all_done ↔ MayPromise unit command wanted
  pub home : told.home ≡ home_sectors_of (first_home_of unit) (read_for wanted command)

-- One step of a command that wants this. At each moment of it a loss of power leaves what may be
-- found of the book that the unit fits.
pub record GoOnPost {M : Type 0} (state : M → State) (Follows : M → M → Type 0)
    (command : Command) (want : Want) (taken : List ℕ) (old : UnitValue M) (progress : Progress)
    (out : List ℕ) (new : UnitValue M) : Type 0 where
  pub line : (book : Book) → FitsPending (state old.store.medium) old command taken want book
      → HasProgressed (state old.store.medium) (state new.store.medium) (Ok command) taken old
      progress out new book
  pub cuts : (book : Book) → FitsPending (state old.store.medium) old command taken want book
      → book.ours ≡ true
      → LeavesOnly (MayFind (state old.store.medium).size (book_held want command taken book))
      (state old.store.medium) (state new.store.medium)
  -- a good answer promises only where no record was left to write
  pub promises : (sent : ℕ) → progress ≡ Done (Ok sent)
      → commits command taken old.write_cache ≡ true → MayPromise old command want
  pub dead : is_dead old.store.cached ≡ true → new.store ≡ old.store
  pub onward : may_follow progress want ≡ true
  -- where it wants the same again, fewer steps are left
  pub fewer : progress ≡ Wants want → steps_left new.store.cached < steps_left old.store.cached
  -- what can be had by no call is had so, and is not wanted again
  pub at_once : IsHadAtOnce old command want
      → IsUnchanged (state old.store.medium) (state new.store.medium)
  pub not_again : IsHadAtOnce old command want → progress ≢ Wants want
  pub waits : (next : Want) → progress ≡ Wants next → StaysWanting command taken next old new
  pub makes : StepCalls (state old.store.medium) (state new.store.medium) command want old
  pub sends : SendsWhenDone (Ok command) (unit_limit old) progress
  pub keeps : StepKeeps state Follows old new

-- A command that was parsed, or its refusal, begins: by no call of the medium. A WRITE does not
-- wait for room that is there. What promises waits for its commit, since the medium may be behind.
pub record BeginPost {M : Type 0} (state : M → State) (Follows : M → M → Type 0)
    (told : Result Command Sense) (taken : List ℕ) (old : UnitValue M) (progress : Progress)
    (out : List ℕ) (new : UnitValue M) : Type 0 where
  pub line : (book : Book) → FitsUnit (state old.store.medium) old book
      → HasProgressed (state old.store.medium) (state new.store.medium) told taken old
      progress out new book
  pub medium : new.store.medium ≡ old.store.medium
  pub at_once : (command : Command) → told ≡ Ok command
      → first_want command taken old.write_cache ≡ Some want.Room
      → IsHadAtOnce old command want.Room → progress ≢ Wants want.Room
  pub promises : (command : Command) (sent : ℕ) → told ≡ Ok command
      → commits command taken old.write_cache ≡ true → progress ≢ Done (Ok sent)
  pub waits : (next : Want) → progress ≡ Wants next → BeginsWanting told taken next old new
  pub sends : SendsWhenDone told (unit_limit old) progress
  pub keeps : StepKeeps state Follows old new

-- What becomes of the unit where a commit is done: the command is over, and MODE SELECT has
-- disabled the write cache; but a READ wants its blocks.
abbrev pub cache_after : Command → Bool → Bool
cache_after (command.ModeSelect length) write_cache = false
cache_after command write_cache = write_cache

abbrev pub progress_after : Command → Progress
progress_after (command.Read10 transfer) = Wants want.Read
progress_after (command.Read16 transfer) = Wants want.Read
progress_after command = Done (Ok 0)

-- the sense of an earlier command is dropped where the command is over
abbrev pub kept_after : Progress → Waiting → Waiting
kept_after (Done result) kept = record kept { sense = None }
kept_after (Wants want) kept = kept

-- where a batch has the write of a WRITE: it is over, or wants a commit
abbrev pub goes_through : Transfer → Bool → Bool
goes_through transfer write_cache = transfer.fua || not write_cache

abbrev pub progress_accepted : Transfer → Bool → Progress
progress_accepted transfer write_cache =
    if goes_through transfer write_cache then Wants want.Commit else Done (Ok 0)

-- ---- what ends a command from outside

-- It is dropped, whatever it wanted: the unit fits the book before it, where a batch has its write
-- with that last, whole and unpromised.
abbrev pub EachIsDropped : {M : Type 0} → (M → State) → Type 0
EachIsDropped {M} state = (unit : UnitValue M) (command : Command) (taken : List ℕ) (wanted : Want)
    (book : Book) → FitsPending (state unit.store.medium) unit command taken wanted book
    → FitsUnit (state unit.store.medium) unit (book_held wanted command taken book)

-- The device refused a call of it: by the rules it ends with a write error, and its write is the
-- last one accepted, or is not accepted.
abbrev pub EachIsRefused : {M : Type 0} → (M → State) → UnitValue M → UnitValue M → Type 0
EachIsRefused state old new = (command : Command) (taken : List ℕ) (wanted : Want) (book : Book)
    → wants_writing command taken old.write_cache ≡ true
    → FitsPending (state old.store.medium) old command taken wanted book
    → (next : Book)
    × IsOutcome true (Ok command) taken (state_of old book) (Err write_error) (state_of new next)
    × FitsUnit (state new.store.medium) new next

-- The promises stay where a command promises none, or fails.
abbrev pub MarksStay : Type 0
MarksStay = (refused : Bool) (command : Command) (taken : List ℕ) (old new : UnitState)
    (answer : Result (List ℕ) Sense) → IsOutcome refused (Ok command) taken old answer new
    → (commits command taken old.write_cache ≡ false) ⊎ ((sense : Sense) × (answer ≡ Err sense))
    → new.book.mark ≡ old.book.mark

-- A command is parsed once: with the check for a fault made anew it is what its block is later,
-- where the unit was faulted in between, or was not.
abbrev pub IsParsedOnce : Type 0
IsParsedOnce = (blocks limit : ℕ) (attention before later : Bool) (block : List ℕ)
    → (before ≡ true → later ≡ true)
    → command_by blocks limit attention later block
    ≡ checked_for_fault later (command_by blocks limit attention before block)

-- what was parsed of a block is its command still, with the check for a fault made anew
abbrev pub ParsedCommand : UnitState → List ℕ → Result Command Sense → Type 0
ParsedCommand unit block told = checked unit block ≡ checked_for_fault unit.faulted told

-- It is so when the block is parsed, and behind each step in the background.
pub record KeepsParsedCommand {M : Type 0} (state : M → State) : Type 0 where
  pub parsed : (unit : UnitValue M) (block : List ℕ) (book : Book)
      → FitsUnit (state unit.store.medium) unit book
      → ParsedCommand (state_of unit book) block (command_for unit block)
  pub ticked : (refused : Bool) (old new : UnitState) (block : List ℕ) (told : Result Command Sense)
      → Ticks refused old new → ParsedCommand old block told → ParsedCommand new block told

-- ---- what comes while a command is pending

-- a batch has the write of the command already
abbrev pub has_write : Want → Command → Bool
has_write want.Commit command = writes_blocks command
has_write want command = false

-- A step in the background: by the rules it did nothing, or faulted the unit, and the command is
-- pending still. At each moment of it a loss of power leaves what may be found of the book, perhaps
-- with the write of the command, whole.
pub record PendingTicked {M : Type 0} (before after : State) (command : Command) (taken : List ℕ)
    (want : Want) (book : Book) (old new : UnitValue M) : Type 0 where
  pub line : Ticks (has_refused before after) (state_of old book) (state_of new book)
  pub fits : FitsPending after new command taken want book
  pub cuts : book.ours ≡ true
      → LeavesOnly (FoundWith before.size book (write_of_command command taken)) before after

-- Each does so, whatever it works towards. A store that has the write has to live: the rules have
-- no line for a faulted unit whose command is yet to promise its write.
abbrev pub TicksWhilePending : {M : Type 0} → (M → State) → (M → M → Type 0) → Type 0
TicksWhilePending {M} state Follows = (work : Work) (old new : UnitValue M) (command : Command)
    (taken : List ℕ) (wanted : Want) (book : Book) → WorksUnit work state Follows old new
    → FitsPending (state old.store.medium) old command taken wanted book
    → (has_write wanted command ≡ true → is_dead new.store.cached ≡ false)
    → PendingTicked (state old.store.medium) (state new.store.medium) command taken wanted book
    old new

-- between two calls a loss of power leaves what may be found of the book, perhaps with the write
abbrev pub FoundWhilePending : {M : Type 0} → (M → State) → Type 0
FoundWhilePending {M} state = (unit : UnitValue M) (command : Command) (taken : List ℕ)
    (wanted : Want) (book : Book)
    → FitsPending (state unit.store.medium) unit command taken wanted book → book.ours ≡ true
    → EachCut (FoundWith (state unit.store.medium).size book (write_of_command command taken))
    (state unit.store.medium)
