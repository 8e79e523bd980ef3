-- What the parts of an event do to the unit and to the line where the device may be behind: they
-- begin a command, and go on with it.
use Rattle.std.specs.Prelude.{⊤, ◌≡◌, ◌≤◌, ◌*◌, ◌++◌, ℕ, Bool, true, false, List, [], length}
use Rattle.std.specs.Prelude.{Option, Some, None, Ok}
use Rattle.medium.specs.{Medium.State, Moments.LeavesOnly, Sent.SendsUpTo}
use Rattle.logical_blocks.specs.{Blocks.Write, Book.{Book, with_progress}}
use Rattle.scsi.specs.{declared.command.Command.Command, Rules.{CarriesOut, Ticks}}
use Rattle.scsi.specs.Rules.{UnitState, IsFaulted, checked_for_fault, moves}
use Rattle.spec.specs.{Cases.IsCase}
use Rattle.spec.specs.Conversation.{IsCarriedOut, OutStep}
use Rattle.spec.specs.{declared.event.Answer.Answer, declared.event.Answer.TheVariants.Ack}
use Rattle.spec.specs.Lagging.{AcknowledgesAny, Lagging}
use Rattle.spec.specs.Exchange.{Script, finished, taking, moment_of, at_once, after_data}
use Rattle.spec.specs.UnitConversation.{Intends, on_line, way_of}
use Rattle.spec.specs.declared.way.Way.TheVariants as ways
use Rattle.scsi.specs.declared.intent.Intent.TheVariants as intent
use Rattle.scsi_unit.specs.{Background.is_dead, Books.MayFind, Serving.{command_for, has_refused}}
use Rattle.scsi_unit.specs.{Laws.IsSameLife, Starting.layout_of}
use Rattle.scsi_unit.specs.UnitValue.{UnitValue, unit_limit, intention_of, state_of, FitsUnit}
use Rattle.scsi_unit.specs.Pending.{CanWant, FitsPending, MayPromise, StepCalls, StepKeeps}
use Rattle.scsi_unit.specs.Pending.{book_held, write_held}
use Rattle.scsi_unit.specs.declared.progress.{Progress.Progress, Want.Want}
use Rattle.scsi_unit.specs.declared.progress.Progress.TheVariants.{Done, Wants}
use Rattle.scsi_unit.specs.declared.progress.Want.TheVariants.{Read}
use Rattle.bot_machine.specs.declared.exchange.Exchange.{Exchange}
use Rattle.bot_machine.specs.declared.bulk_state.BulkState.{BulkState}
use Rattle.bot_machine.specs.declared.pending.{Pending.Pending, Wanted.Wanted}
use Rattle.bot_machine.specs.Refinement.{line_of, line_with, LiesIn, LaysOutAnswer, IsInPhase}
use Rattle.bot_machine.specs.Disk.{DiskValue, FitsDisk, over}
use Rattle.bot_machine.specs.LaggingDisk.{StandsPending, GoesOnward, GrowsTo, held_write, want_of}

-- ---- what holds while a command is pending

-- The command of an exchange may go on over these bytes, with so much room for what it sends. It is
-- what its block spelled when it began; only while it reads may the unit have been faulted since.
pub record PendsFor {M : Type 0} (unit : UnitValue M) (exchange : Exchange) (taken : List ℕ)
    (wanted : Wanted) (most : ℕ) : Type 0 where
  pub is_case : IsCase exchange.case exchange.command.host exchange.intended
  pub sends : (n : ℕ) → exchange.intended ≡ ways.In n → moves wanted.command ≡ intent.In n
  pub parsed : checked_for_fault (is_dead unit.store.cached) (Ok wanted.command)
      ≡ command_for unit exchange.command.block.items
  pub can : CanWant unit wanted.command wanted.want taken
  pub room : (n : ℕ) → moves wanted.command ≡ intent.In n → n ≤ most
  pub live : (wanted.want ≡ Read → ⊥) → is_dead unit.store.cached ≡ false

-- that of a wrapper that takes no data
pub record PendsAtOnce {M : Type 0} (limit : ℕ) (disk : DiskValue M) (exchange : Exchange)
    (wanted : Wanted) : Type 0 where
  pub expected : disk.line.left ≡ finished
  pub is_at_once : moment_of exchange.case ≡ at_once
  pub intended : exchange.intended ≡ way_of (moves wanted.command)
  pub pends : PendsFor disk.unit exchange [] wanted (512 * limit)

-- that of the data on the line, of which no more is due
abbrev pub PendsOnLine : {M : Type 0} → Script → DiskValue M → Wanted → Type 0
PendsOnLine (taking case command intended bytes due) disk wanted =
    (due ≡ 0) × (moment_of case ≡ after_data)
    × PendsFor disk.unit (record { case = case; command = command; intended = intended }) bytes
    wanted 0
PendsOnLine left disk wanted = ⊥

abbrev pub PendsOnDisk : {M : Type 0} → Option Exchange → DiskValue M → Wanted → Type 0
PendsOnDisk (Some exchange) disk wanted =
    PendsAtOnce (unit_limit disk.unit) disk exchange wanted
PendsOnDisk None disk wanted = PendsOnLine disk.line.left disk wanted

-- nothing is pending, or a command is
abbrev pub PendsBehind : {M : Type 0} → DiskValue M → Option Pending → Type 0
PendsBehind disk None = ⊤
PendsBehind disk (Some pending) = PendsOnDisk pending.wrapper disk pending.wanted

abbrev pub HaltsAsBefore : Option Pending → BulkState → BulkState → Type 0
HaltsAsBefore None from to = ⊤
HaltsAsBefore (Some pending) from to = to.out_halted ≡ from.out_halted

-- the same, and Bulk-Out is not halted while one is
abbrev pub AwaitsDevice : {M : Type 0} → DiskValue M → Option Pending → Type 0
AwaitsDevice disk None = ⊤
AwaitsDevice disk (Some pending) =
    (disk.line.out_halted ≡ false) × PendsOnDisk pending.wrapper disk pending.wanted

-- ---- the book of the life

-- the writes of the first book are the first ones of the second
abbrev pub HasMore : Book → Book → Type 0
HasMore old new = (since : List Write) × (new.writes ≡ old.writes ++ since)

-- A step goes from one book to another, where a batch had this write behind those of the first, and
-- has that behind those of the second: no write is lost, and no promise.
pub record BookGoesOn (Promises : Type 0) (faulted : Bool) (held next : Option Write)
    (book later : Book) : Type 0 where
  pub life : IsSameLife book later
  pub more : HasMore book later
  pub rises : book.mark ≤ later.mark
  pub mark : ¬ Promises → later.mark ≡ book.mark
  pub grows : GrowsTo faulted (with_progress book held) (with_progress later next)

-- ---- a command, by itself

-- what a command that is not over wants
abbrev pub want_in : Progress → Option Want
want_in (Done answer) = None
want_in (Wants want) = Some want

-- the answer of one that is over is laid out
abbrev pub AnswerLaidOut : BulkState → Exchange → Progress → BulkState → Type 0
AnswerLaidOut old exchange (Done answer) new = LaysOutAnswer old exchange answer new
AnswerLaidOut old exchange (Wants want) new = new ≡ old

-- It is over: it is carried out over these bytes, by the rules. A batch may have had its write.
pub record CommandCarriedOut {M : Type 0} (Promises : Type 0) (held : Option Write) (refused : Bool)
    (after : State) (exchange : Exchange) (taken : List ℕ) (old new : UnitValue M)
    (from to : BulkState) (out : List ℕ) (book : Book) : Type 0 where
  pub next : Book
  pub carried_out : (buffer : List ℕ) (left : Script) → LiesIn buffer exchange.case out
      → IsCarriedOut Intends CarriesOut Ticks refused exchange.case
      exchange.command exchange.intended taken (on_line (line_with from left) (state_of old book))
      (on_line (line_of to buffer) (state_of new next))
  pub fits : FitsUnit after new next
  pub on : BookGoesOn Promises (is_dead new.store.cached) held None book next

-- It is not: by the rules nothing has happened yet.
pub record CommandWaiting {M : Type 0} (held : Option Write) (after : State) (taken : List ℕ)
    (wanted : Wanted) (old new : UnitValue M) (book : Book) : Type 0 where
  pub stays : state_of new book ≡ state_of old book
  pub fits : FitsPending after new wanted.command taken wanted.want book
  pub more : HasMore (with_progress book held) (book_held wanted.want wanted.command taken book)

-- one of both, by what it wants next
abbrev pub CommandProgress : {M : Type 0} → Option Wanted → Type 0 → Option Write → State → State
    → Exchange → List ℕ → UnitValue M → UnitValue M → BulkState → BulkState → List ℕ → Book → Type 0
CommandProgress None Promises held before after exchange taken old new from to out book =
    CommandCarriedOut Promises held (has_refused before after) after exchange taken old new from to
    out book
CommandProgress (Some wanted) Promises held before after exchange taken old new from to out book =
    CommandWaiting held after taken wanted old new book

-- Whatever the book: the line is as it was, and a unit that lives may go on with the command.
pub record CommandWaits {M : Type 0} (exchange : Exchange) (taken : List ℕ) (wanted : Wanted)
    (old new : UnitValue M) (from to : BulkState) (most : ℕ) : Type 0 where
  pub unmoved : to ≡ from
  pub others : new ≡ record old { store = new.store }
  pub live : is_dead new.store.cached ≡ false
  pub pends : PendsFor new exchange taken wanted most

-- one of both: a phase that the unit allows, or what is pending
abbrev pub LineAfter : {M : Type 0} → Option Wanted → Exchange → List ℕ → UnitValue M
    → UnitValue M → BulkState → BulkState → ℕ → Type 0
LineAfter None exchange taken old new from to room =
    IsInPhase (unit_limit new) (intention_of new) to.phase
LineAfter (Some wanted) exchange taken old new from to room =
    CommandWaits exchange taken wanted old new from to room

-- what any part passes on
pub record UnitKept {M : Type 0} (state : M → State) (Follows : M → M → Type 0)
    (old new : UnitValue M) (from to : BulkState) : Type 0 where
  pub keeps : StepKeeps state Follows old new
  pub limit : unit_limit new ≡ unit_limit old
  pub size : to.size ≡ from.size

-- A command begins: no call of the medium is made.
pub record CommandBegun {M : Type 0} (state : M → State) (Follows : M → M → Type 0)
    (old : UnitValue M) (from : BulkState) (exchange : Exchange) (taken : List ℕ)
    (result : Option Wanted)
    (new : UnitValue M) (to : BulkState) (out : List ℕ) : Type 0 where
  pub goes : (book : Book) → FitsUnit (state old.store.medium) old book
      → CommandProgress result ⊥ None (state old.store.medium) (state new.store.medium) exchange
      taken old new from to out book
  pub leaves : LineAfter result exchange taken old new from to (length out)
  pub medium : new.store.medium ≡ old.store.medium
  pub passes : UnitKept state Follows old new from to
  pub parsed : (wanted : Wanted) → result ≡ Some wanted
      → command_for old exchange.command.block.items ≡ Ok wanted.command

-- what is pending of it behind a step
abbrev pub wanting : Command → Option Want → Option Wanted
wanting command None = None
wanting command (Some want) = Some (record { command = command; want = want })

-- the command may go on
pub record CanAdvance {M : Type 0} (unit : UnitValue M) (exchange : Exchange) (taken : List ℕ)
    (wanted : Wanted) (out : List ℕ) : Type 0 where
  pub pends : PendsFor unit exchange taken wanted (length out)

-- A command goes on by one step. At each moment of it a loss of power leaves what may be found of
-- the book that the unit fits.
pub record CommandAdvanced {M : Type 0} (state : M → State) (Follows : M → M → Type 0)
    (old : UnitValue M) (from : BulkState) (exchange : Exchange) (taken : List ℕ) (wanted : Wanted)
    (result : Option Want) (new : UnitValue M) (to : BulkState) (out : List ℕ) : Type 0 where
  pub goes : (book : Book)
      → FitsPending (state old.store.medium) old wanted.command taken wanted.want book
      → CommandProgress (wanting wanted.command result) (MayPromise old wanted.command wanted.want)
      (write_held wanted.want wanted.command taken) (state old.store.medium)
      (state new.store.medium) exchange taken old new from to out book
  pub cuts : (book : Book)
      → FitsPending (state old.store.medium) old wanted.command taken wanted.want book
      → book.ours ≡ true → LeavesOnly (MayFind (state old.store.medium).size
      (book_held wanted.want wanted.command taken book)) (state old.store.medium)
      (state new.store.medium)
  pub leaves : LineAfter (wanting wanted.command result) exchange taken old new from to
      (length out)
  pub calls : StepCalls (state old.store.medium) (state new.store.medium) wanted.command
      wanted.want old
  pub unsent : MayPromise old wanted.command wanted.want
      → SendsUpTo 0 (state old.store.medium) (state new.store.medium)
  pub dead : is_dead old.store.cached ≡ true → new.store ≡ old.store
  pub onward : GoesOnward old new wanted.want result
  pub passes : UnitKept state Follows old new from to

-- ---- a packet, by itself

-- the parts of a disk, as it is seen
abbrev pub disk_of : {M : Type 0} → UnitValue M → BulkState → List ℕ → DiskValue M
disk_of unit bulk buffer = record { line = line_of bulk buffer; unit = unit }

-- A packet to Bulk-Out, which is halted or not, is acted on in its own event, by the rules.
pub record PacketActedOn {M : Type 0} (before after : State) (halted : Bool) (packet : List ℕ)
    (answer : Answer) (old new : DiskValue M) (book : Book) : Type 0 where
  pub later : Book
  pub step : OutStep Intends CarriesOut Ticks (has_refused before after) halted old.line.left packet
      (over old book) answer (over new later)
  pub fits : FitsDisk after new later
  pub on : BookGoesOn ⊥ (is_dead new.unit.store.cached) None None book later

-- it is, or it is pending
abbrev pub PacketOutcome : {M : Type 0} → Option Pending → State → State → Bool → List ℕ → Answer
    → DiskValue M → DiskValue M → Book → Type 0
PacketOutcome None before after halted packet answer old new book =
    PacketActedOn before after halted packet answer old new book
PacketOutcome (Some pending) before after halted packet answer old new book =
    (answer ≡ Ack) × AcknowledgesAny halted old.line.left
    × StandsPending pending.wrapper new.line.left after new pending.wanted book
    (record { now = over old book; pending = Some packet })

-- A packet to Bulk-Out, which is not halted, is acknowledged; no call of the medium is made.
pub record PacketTaken {M : Type 0} (state : M → State) (Follows : M → M → Type 0)
    (old : UnitValue M) (from : BulkState) (before packet : List ℕ) (result : Option Pending)
    (new : UnitValue M) (to : BulkState) (after : List ℕ) : Type 0 where
  pub acts : (book : Book) → FitsUnit (state old.store.medium) old book
      → PacketOutcome result (state old.store.medium) (state new.store.medium) false packet Ack
      (disk_of old from before) (disk_of new to after) book
  pub pends : PendsBehind (disk_of new to after) result
  pub phase : IsInPhase (unit_limit new) (intention_of new) to.phase
  pub room : length after ≡ length before
  pub medium : new.store.medium ≡ old.store.medium
  pub passes : UnitKept state Follows old new from to
  -- where it is pending Bulk-Out is halted as before
  pub halts : HaltsAsBefore result from to

-- the same of a packet with any answer
pub record PacketBegun {M : Type 0} (state : M → State) (Follows : M → M → Type 0)
    (old : DiskValue M) (packet : List ℕ) (answer : Answer) (result : Option Pending)
    (new : DiskValue M) : Type 0 where
  pub acts : (book : Book) → FitsDisk (state old.unit.store.medium) old book
      → PacketOutcome result (state old.unit.store.medium) (state new.unit.store.medium)
      old.line.out_halted packet answer old new book
  pub awaits : AwaitsDevice new result
  pub medium : new.unit.store.medium ≡ old.unit.store.medium
  pub keeps : StepKeeps state Follows old.unit new.unit
  pub limit : unit_limit new.unit ≡ unit_limit old.unit
  pub size : new.line.packet_size ≡ old.line.packet_size

-- ---- a step of what is pending

-- what is pending behind a step
abbrev pub pending_behind : Option Exchange → Wanted → Option Want → Option Pending
pending_behind wrapper wanted None = None
pending_behind wrapper wanted (Some want) = Some (record {
  wrapper = wrapper;
  wanted = record wanted { want = want };
})

-- A packet that was pending is acted on in this step, as if it came in it.
pub record PendingCompleted {M : Type 0} (Promises : Type 0) (held : Option Write) (refused : Bool)
    (after : State) (new : DiskValue M) (book : Book) (s : Lagging UnitState) : Type 0 where
  pub packet : List ℕ
  pub pending_is : s.pending ≡ Some packet
  pub later : Book
  pub step : OutStep Intends CarriesOut Ticks refused s.now.line.out_halted s.now.line.left packet
      s.now Ack (over new later)
  pub fits : FitsDisk after new later
  pub on : BookGoesOn Promises (is_dead new.unit.store.cached) held None book later

-- it is, or it is still pending
abbrev pub PendingOutcome : {M : Type 0} → Option Pending → Type 0 → Option Write → State → State
    → DiskValue M → Book → Lagging UnitState → Type 0
PendingOutcome None Promises held before after new book s =
    PendingCompleted Promises held (has_refused before after) after new book s
PendingOutcome (Some pending) Promises held before after new book s =
    StandsPending pending.wrapper new.line.left after new pending.wanted book s
    × HasMore (with_progress book held)
    (with_progress book (held_write (Some pending) new.line.left))

-- A step of what is pending was made on a disk.
pub record PendingAdvanced {M : Type 0} (state : M → State) (Follows : M → M → Type 0)
    (old : DiskValue M) (pending : Pending) (result : Option Pending) (new : DiskValue M)
    : Type 0 where
  pub goes : (book : Book) (s : Lagging UnitState)
      → StandsPending pending.wrapper old.line.left (state old.unit.store.medium) old
      pending.wanted book s
      → PendingOutcome result (MayPromise old.unit pending.wanted.command pending.wanted.want)
      (held_write (Some pending) old.line.left) (state old.unit.store.medium)
      (state new.unit.store.medium) new book s
  pub cuts : (book : Book) (s : Lagging UnitState)
      → StandsPending pending.wrapper old.line.left (state old.unit.store.medium) old
      pending.wanted book s → book.ours ≡ true
      → LeavesOnly (MayFind (state old.unit.store.medium).size
      (with_progress book (held_write (Some pending) old.line.left)))
      (state old.unit.store.medium) (state new.unit.store.medium)
  pub awaits : old.line.out_halted ≡ false → AwaitsDevice new result
  pub calls : StepCalls (state old.unit.store.medium) (state new.unit.store.medium)
      pending.wanted.command pending.wanted.want old.unit
  pub unsent : MayPromise old.unit pending.wanted.command pending.wanted.want
      → SendsUpTo 0 (state old.unit.store.medium) (state new.unit.store.medium)
  pub dead : is_dead old.unit.store.cached ≡ true → new.unit.store ≡ old.unit.store
  pub onward : GoesOnward old.unit new.unit pending.wanted.want (want_of result)
  pub keeps : StepKeeps state Follows old.unit new.unit
  pub limit : unit_limit new.unit ≡ unit_limit old.unit
  pub size : new.line.packet_size ≡ old.line.packet_size

-- ---- the device refused a call

-- It is acted on as by the rules of a refused call, or it waits for its blocks on a faulted unit.
abbrev pub RefusalOutcome : {M : Type 0} → Option Pending → Option Write → State → DiskValue M
    → Book → Lagging UnitState → Type 0
RefusalOutcome None held after new book s = PendingCompleted ⊥ held true after new book s
RefusalOutcome (Some pending) held after new book s =
    (held ≡ held_write (Some pending) new.line.left)
    × StandsPending pending.wrapper new.line.left after new pending.wanted book
    (record s { now = record s.now { unit = state_of new.unit book } })
    × IsFaulted true s.now.unit (state_of new.unit book)

-- The device behind the medium refused a call while this was pending: no call is made.
pub record PendingRefused {M : Type 0} (state : M → State) (old : DiskValue M) (pending : Pending)
    (result : Option Pending) (new : DiskValue M) : Type 0 where
  pub goes : (book : Book) (s : Lagging UnitState)
      → StandsPending pending.wrapper old.line.left (state old.unit.store.medium) old
      pending.wanted book s
      → RefusalOutcome result (held_write (Some pending) old.line.left)
      (state new.unit.store.medium) new book s
  pub awaits : old.line.out_halted ≡ false → AwaitsDevice new result
  pub medium : new.unit.store.medium ≡ old.unit.store.medium
  pub dead : is_dead new.unit.store.cached ≡ true
  pub layout : layout_of new.unit.store.cached ≡ layout_of old.unit.store.cached
  pub keeps : new.unit.store.cached.log.keeps ≡ old.unit.store.cached.log.keeps
  pub size : new.line.packet_size ≡ old.line.packet_size
