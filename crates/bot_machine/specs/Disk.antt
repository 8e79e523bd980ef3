-- A disk over a medium: its conversation over each book that it fits, and what a cut may leave.
use Rattle.spec.specs.declared.event.Event.TheVariants as happens
use Rattle.std.specs.Prelude.{⊤, ◌≡◌, ◌≤◌, ◌⊎◌, ℕ, ◌+◌, Bool, true, List, [], ◌∷◌, Option, None}
use Rattle.std.specs.Prelude.{Result, Ok, Err}
use Rattle.spec.specs.{declared.case.Endpoint.Endpoint, declared.status.Status.Status}
use Rattle.spec.specs.declared.status.Status.TheVariants.{Passed, Failed}
use Rattle.logical_blocks.specs.{Blocks.Write, Book.Book}
use Rattle.scsi.specs.{Sense.Sense, Rules.{UnitState, CarriesOut, Ticks}}
use Rattle.spec.specs.{StatusWrapper.status_wrapper, declared.event.Event.Event}
use Rattle.spec.specs.{declared.event.Answer.Answer, declared.event.Answer.TheVariants.Ticked}
use Rattle.spec.specs.Exchange.{Line, finished, sending}
use Rattle.spec.specs.Conversation.{Conversation, refused_events, SetupStep}
use Rattle.spec.specs.UnitConversation.{Intends, write_of_event, UnitRun, UnitStep, on_line}
use Rattle.medium.specs.{Medium.{State, Image}, Moments.{LeavesOnly, EachCut, IsUnchanged}}
use Rattle.medium.specs.Sent.{SendsUpTo}
use Rattle.scsi_unit.specs.{Background.{Work, Settle, is_dead}, Books.{MayFind, FoundWith}}
use Rattle.scsi_unit.specs.Calls.{ComesBy, IsBounded, IsWritten, SendsOneBatch, most_calls}
use Rattle.scsi_unit.specs.Calls.{most_sends}
use Rattle.scsi_unit.specs.{Costs.KeepsHeadroom, Serving.{has_refused, IsSparing, TicksOver}}
use Rattle.scsi_unit.specs.Starting.{layout_of}
use Rattle.scsi_unit.specs.UnitValue.{UnitValue, unit_limit, state_of, FitsUnit}
pub use Rattle.bot_machine.specs.DiskValue.{DiskValue}
use Rattle.bot_machine.specs.{Turns.{ByTurns, marks_in}, Acts.{EventCarriesOut, Acts}}
use Rattle.bot_machine.specs.Reading.{LooksIn}

-- the conversation of a disk, with a book of its life
abbrev pub over : {M : Type 0} → DiskValue M → Book → Conversation UnitState
over disk book = on_line disk.line (state_of disk.unit book)

-- the disk over a medium in this state fits a book of its life
abbrev pub FitsDisk : {M : Type 0} → State → DiskValue M → Book → Type 0
FitsDisk m disk book = FitsUnit m disk.unit book

-- the count of refused calls does not fall, and the size stays
pub record Elapses (before after : State) : Type 0 where
  pub failures_stay : before.failures ≤ after.failures
  pub size_stays : after.size ≡ before.size

-- No more calls of the medium were made than the most of a command, and no more writes and flushes.
-- The layout, which tells these numbers, stays, and so does the policy. A ring that was not full at
-- the start never is, where the unit goes ahead. A faulted unit makes no call, and stays faulted.
-- Where no record is left to write before, one batch at most is made durable.
pub record TakesFew {M : Type 0} (before after : State) (old new : UnitValue M) : Type 0 where
  pub calls : after.calls ≤ before.calls + most_calls old
  pub sent : SendsUpTo (most_sends old) before after
  pub one_batch : IsWritten old.store.cached
      → SendsOneBatch old.store.goes_ahead before after old.store.cached.log
  pub layout_stays : layout_of new.store.cached ≡ layout_of old.store.cached
  pub keeps_stays : new.store.cached.log.keeps ≡ old.store.cached.log.keeps
  pub policy_stays : new.store.goes_ahead ≡ old.store.goes_ahead
  pub headroom : KeepsHeadroom old.store new.store
  pub faulted : is_dead old.store.cached ≡ true
      → (after.calls ≡ before.calls) × (is_dead new.store.cached ≡ true)

-- A unit proceeds from one moment to another: from a book that it fits, as Moves says, to one that
-- it fits then. A cut at any moment between finds accepted writes, perhaps with the one in
-- progress.
pub record Proceeds {M : Type 0} (before after : State) (old new : UnitValue M)
    (Moves : UnitState → UnitState → Type 0) (write : Option Write) (book : Book) : Type 0 where
  pub later : Book
  pub moves : Moves (state_of old book) (state_of new later)
  pub fits : FitsUnit after new later
  pub ours : later.ours ≡ book.ours
  pub cuts : book.ours ≡ true → LeavesOnly (FoundWith before.size book write) before after
  pub at_exit : book.ours ≡ true → EachCut (MayFind after.size later) after

-- a step in the background is exactly one step of the unit, by what it works towards, and leaves
-- the line
abbrev pub TicksIn : {M : Type 0} → Work → State → State → DiskValue M → Event → DiskValue M
    → Type 0
TicksIn work before after old happens.Tick new =
    TicksOver work before after old.unit new.unit × (new.line ≡ old.line)
TicksIn work before after old other new = ⊤

-- the status that tells the answer to a command
abbrev pub status_of_answer : Result (List ℕ) Sense → Status
status_of_answer (Ok sent) = Passed
status_of_answer (Err sense) = Failed

-- the status wrapper that is still to come tells this answer
abbrev pub Tells : Result (List ℕ) Sense → Line → Type 0
Tells answer line = (packets : List (List ℕ)) × (halt : Option Endpoint) × (tag : ℕ) × (residue : ℕ)
    × (line.left ≡ sending packets halt (status_wrapper tag residue (status_of_answer answer)))

-- One event of a disk and its answer, where a step in the background works towards this. A host
-- sees nothing of what that is.
pub record IsStepBy {M : Type 0} (work : Work) (before after : State) (old : DiskValue M)
    (event : Event) (answer : Answer) (new : DiskValue M) : Type 0 where
  pub proceeds : (book : Book) → FitsDisk before old book → Proceeds before after old.unit new.unit
      (λ unit later. UnitStep (has_refused before after)
      (on_line old.line unit) event answer (on_line new.line later))
      (write_of_event (over old book) event) book
  -- where the unit has nothing to do it stays as it is, and its medium too
  pub rests : (book : Book) → FitsDisk before old book → ¬ Acts (over old book) event
      → new.unit ≡ old.unit
  pub ticks : TicksIn work before after old event new
  -- a command makes no call of the medium that it does not need, no more than its calls of the
  -- store add up to, and the host is told its answer
  pub spares : (book : Book) → FitsDisk before old book → (block taken : List ℕ)
      → EventCarriesOut (over old book) event block taken
      → (told : Result (List ℕ) Sense)
      × IsSparing before after block taken old.unit told new.unit
      × IsBounded before after block taken old.unit × Tells told new.line
  -- whatever the book
  pub few : TakesFew before after old.unit new.unit
  -- each read names a sector of the log, or one that `Disk::home_sectors` tells for the packet
  pub looks : LooksIn before after old event
  pub elapses : Elapses before after
  pub limit_stays : unit_limit new.unit ≡ unit_limit old.unit
  pub packets_stay : new.line.packet_size ≡ old.line.packet_size

-- the same of an event of a run, whose steps in the background work towards rest
abbrev pub IsStep : {M : Type 0} → State → State → DiskValue M → Event → Answer → DiskValue M
    → Type 0
IsStep before after old event answer new = IsStepBy Settle before after old event answer new

-- an image that a cut in one of the events of a run may leave: accepted writes of the book at the
-- beginning of that event, perhaps with the one in progress in it
abbrev pub FoundIn : ℕ
    → (old : Conversation UnitState) (events : List Event) (answers : List Answer)
    (refusals : List Bool) (new : Conversation UnitState)
    → UnitRun old events answers refusals new → Image → Type 0
FoundIn size old (event ∷ events) (answer ∷ answers) (refused ∷ refusals) new (mid, step, rest)
    image =
    FoundWith size old.unit.book (write_of_event old event) image
    ⊎ FoundIn size mid events answers refusals new rest image
FoundIn size old events answers refusals new run image = ⊥

-- events of a disk and their answers, over one book that the disk fits
pub record RunsOn {M : Type 0} (before after : State) (old : DiskValue M) (events : List Event)
    (answers : List Answer) (refusals : List Bool) (new : DiskValue M) (book : Book) : Type 0 where
  pub later : Book
  pub run : UnitRun (over old book) events answers refusals (over new later)
  pub fits : FitsDisk after new later
  pub ours : later.ours ≡ book.ours
  -- each command wrapper taken is followed by its status wrapper, before the next is taken
  pub turns : old.line.left ≡ finished → ByTurns None (marks_in Intends CarriesOut Ticks
      (over old book) events answers refusals (over new later) run)
  -- a cut at any moment finds what one may find at the beginning, or in one of the events
  pub cuts : book.ours ≡ true → LeavesOnly (λ image. MayFind before.size book image
      ⊎ FoundIn before.size (over old book) events answers refusals (over new later) run image)
      before after
  pub at_exit : book.ours ≡ true → EachCut (MayFind after.size later) after

-- Each event is one step of the disk. The truth values say in which the medium refused a call.
abbrev pub StepsThrough : {M : Type 0} → (M → State) → DiskValue M → List Event → List Answer
    → List Bool → DiskValue M → Type 0
StepsThrough state old [] [] [] new = new ≡ old
StepsThrough {M} state old (event ∷ events) (answer ∷ answers) (refused ∷ refusals) new =
    (mid : DiskValue M)
    × (let before : State = state old.unit.store.medium in
    let after : State = state mid.unit.store.medium in
    IsStep before after old event answer mid × (refused ≡ has_refused before after))
    × StepsThrough state mid events answers refusals new
StepsThrough state old events answers refusals new = ⊥

-- Events of a disk and their answers: in some of the events the medium refused a call, whatever the
-- book.
pub record IsRun {M : Type 0} (state : M → State) (old : DiskValue M) (events : List Event)
    (answers : List Answer) (new : DiskValue M) : Type 0 where
  pub refusals : List Bool
  pub steps : StepsThrough state old events answers refusals new
  pub refused : let before : State = state old.unit.store.medium in
      let after : State = state new.unit.store.medium in
      refused_events refusals + before.failures ≤ after.failures
  pub runs_on : (book : Book) → FitsDisk (state old.unit.store.medium) old book
      → RunsOn (state old.unit.store.medium) (state new.unit.store.medium) old events answers
      refusals new book
  pub elapses : Elapses (state old.unit.store.medium) (state new.unit.store.medium)
  pub packets_stay : new.line.packet_size ≡ old.line.packet_size

-- a step in the background that works towards this was made on a disk, and its store comes after
-- what it was, by calls alone
pub record WorksDisk {M : Type 0} (work : Work) (state : M → State) (Follows : M → M → Type 0)
    (old new : DiskValue M) : Type 0 where
  pub step : IsStepBy work (state old.unit.store.medium) (state new.unit.store.medium) old
      happens.Tick Ticked new
  pub follows : ComesBy state Follows old.unit.store new.unit.store

-- something was armed in the medium, and nothing else of the disk has changed
abbrev pub IsRearmed : {M : Type 0} → DiskValue M → DiskValue M → Type 0
IsRearmed old new = new ≡ record old {
  unit = record old.unit {
    store = record old.unit.store { medium = new.unit.store.medium };
  };
}

-- the medium is armed so, or lets go of a call: nothing else of the disk changes, and it fits what
-- it fitted before
pub record ArmsDisk {M : Type 0} (state : M → State) (Arms : M → M → Type 0)
    (old new : DiskValue M) : Type 0 where
  pub armed : Arms old.unit.store.medium new.unit.store.medium
  pub unchanged : IsUnchanged (state old.unit.store.medium) (state new.unit.store.medium)
  pub others : IsRearmed old new
  pub fits : (book : Book) → FitsDisk (state old.unit.store.medium) old book
      → FitsDisk (state new.unit.store.medium) new book

-- a setup packet is answered by the rules, and changes the line alone
pub record AnswersSetup {M : Type 0} (packet : List ℕ) (old : DiskValue M) (answer : Answer)
    (new : DiskValue M) : Type 0 where
  pub request : SetupStep packet old.line answer new.line
  pub others : new ≡ record old { line = new.line }

-- events were played on a disk, and its store comes after what it was, by calls alone
pub record PlaysEvents {M : Type 0} (state : M → State) (Follows : M → M → Type 0)
    (old : DiskValue M) (events : List Event) (answers : List Answer) (new : DiskValue M)
    : Type 0 where
  pub run : IsRun state old events answers new
  pub follows : ComesBy state Follows old.unit.store new.unit.store
