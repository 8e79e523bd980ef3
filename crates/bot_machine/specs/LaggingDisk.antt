-- A disk whose device may be behind: a packet is acknowledged once its bytes are all there, and its
-- event is over when the device has done what its command asks for.
use Rattle.std.specs.Prelude.{◌≡◌, ◌⊎◌, ℕ, suc, ◌<◌, ◌≤◌, Bool, true, List, [], ◌∷◌, ◌++◌}
use Rattle.std.specs.Prelude.{length, take, Option, Some, None, IfSome}
use Rattle.logical_blocks.specs.{Blocks.Write, Book.{Book, with_progress}}
use Rattle.scsi.specs.Rules.{UnitState}
use Rattle.spec.specs.{declared.wrapper.Cbw.Cbw, declared.way.Way.Way, declared.case.Case.Case}
use Rattle.spec.specs.{Cases.size_of_way, CommandWrapper.SpellsCommand}
use Rattle.spec.specs.declared.event.{Event.Event, Answer.Answer}
use Rattle.spec.specs.{Exchange.{Script, taking, in_answer, after_in}, UnitConversation.on_line}
use Rattle.spec.specs.{Lagging.{Lagging, settled, UnitLagStep}, Disks.{event_write, pending_write}}
use Rattle.medium.specs.{Medium.State, Moments.{LeavesOnly, EachCut, IsUnchanged}, Sent.SendsUpTo}
use Rattle.scsi_unit.specs.{Books.{FoundWith, MayFind}, Laws.IsSameLife, Serving.has_refused}
use Rattle.scsi_unit.specs.{Calls.ComesBy, Pending.{FitsPending, StepCalls, may_follow, write_held}}
use Rattle.scsi_unit.specs.{Pending.{MayPromise, IsNeeded}, Starting.layout_of}
use Rattle.scsi_unit.specs.declared.{need.Need.Need, progress.Progress.TheVariants.Wants}
use Rattle.scsi_unit.specs.UnitValue.{UnitValue, unit_limit, state_of}
use Rattle.bot_machine.specs.declared.exchange.Exchange.{Exchange}
use Rattle.bot_machine.specs.declared.pending.{Pending.Pending, Wanted.Wanted}
use Rattle.bot_machine.specs.Disk.{DiskValue, FitsDisk, Elapses, IsRearmed, WorksDisk, over}
use Rattle.bot_machine.specs.PacketRuns.{GivesRun, TakesRun, after_first, after_tokens, packet_of}
use Rattle.scsi_unit.specs.{Background.{Work, is_dead, steps_left}, declared.progress.Want.Want}
use Rattle.spec.specs.declared.event.Event.TheVariants as event
use Rattle.spec.specs.declared.event.Answer.TheVariants.{Ack}

-- What is seen of such a disk. The last bytes of a command that is pending are on the line, or it
-- has none but its wrapper, of which nothing is left there.
pub record LaggingValue (M : Type 0) : Type 0 where
  pub disk : DiskValue M
  pub pending : Option Pending

-- ---- the conversations that the disk stands for

-- The packet is the wrapper of a command that takes no data.
pub record HasWrapper {M : Type 0} (m : State) (disk : DiskValue M) (exchange : Exchange)
    (wanted : Wanted) (book : Book) (s : Lagging UnitState) : Type 0 where
  pub packet : List ℕ
  pub spelled : SpellsCommand packet exchange.command
  pub is : s ≡ record { now = over disk book; pending = Some packet }
  pub fits : FitsPending m disk.unit wanted.command [] wanted.want book

-- The packet is the last one of the data of a command, of which these bytes came before.
pub record HasLastPacket {M : Type 0} (m : State) (disk : DiskValue M) (case : Case) (command : Cbw)
    (intended : Way) (taken : List ℕ) (wanted : Wanted) (book : Book) (s : Lagging UnitState)
    : Type 0 where
  pub packet : List ℕ
  pub bytes : List ℕ
  pub few : length packet ≤ disk.line.packet_size
  pub taken_is : taken ≡ take (size_of_way intended) (bytes ++ packet)
  pub is : s ≡ record {
    now = on_line (record disk.line { left = taking case command intended bytes (length packet) })
        (state_of disk.unit book);
    pending = Some packet;
  }
  pub fits : FitsPending m disk.unit wanted.command taken wanted.want book

-- a command is pending, whose exchange is this one, or is on the line
abbrev pub StandsPending : {M : Type 0} → Option Exchange → Script → State → DiskValue M → Wanted
    → Book → Lagging UnitState → Type 0
StandsPending (Some exchange) left m disk wanted book s =
    HasWrapper m disk exchange wanted book s
StandsPending None (taking case command intended taken due) m disk wanted book s =
    HasLastPacket m disk case command intended taken wanted book s
StandsPending None left m disk wanted book s = ⊥

-- nothing is pending
pub record StandsSettled {M : Type 0} (m : State) (disk : DiskValue M) (book : Book)
    (s : Lagging UnitState) : Type 0 where
  pub is : s ≡ settled (over disk book)
  pub fits : FitsDisk m disk book

-- with this pending or nothing
abbrev pub StandsWith : {M : Type 0} → Option Pending → State → DiskValue M → Book
    → Lagging UnitState → Type 0
StandsWith None m disk book s = StandsSettled m disk book s
StandsWith (Some pending) m disk book s =
    StandsPending pending.wrapper disk.line.left m disk pending.wanted book s

-- the disk over a medium in this state stands for this conversation, with this book of its life
abbrev pub StandsFor : {M : Type 0} → State → LaggingValue M → Book → Lagging UnitState → Type 0
StandsFor m old book s = StandsWith old.pending m old.disk book s

-- ---- the book that the unit fits

-- the bytes taken for a command, where this is left on the line
abbrev pub taken_in : Option Exchange → Script → List ℕ
taken_in None (taking case command intended taken due) = taken
taken_in wrapper left = []

-- the write of the command that is pending, where a batch has it already
abbrev pub held_write : Option Pending → Script → Option Write
held_write None left = None
held_write (Some pending) left =
    write_held pending.wanted.want pending.wanted.command (taken_in pending.wrapper left)

-- the book of the life, and behind its writes such a one
abbrev pub held_book : {M : Type 0} → LaggingValue M → Book → Book
held_book disk book = with_progress book (held_write disk.pending disk.disk.line.left)

-- No write of the first book is missing in the second, but perhaps the last one of a unit that was
-- faulted.
abbrev pub GrowsTo : Bool → Book → Book → Type 0
GrowsTo faulted old new = ((since : List Write) × (new.writes ≡ old.writes ++ since))
    ⊎ ((faulted ≡ true) × ((write : Write) × (old.writes ≡ new.writes ++ write ∷ [])))

-- the next step of what is pending may promise all accepted writes
abbrev pub MayPromiseIn : {M : Type 0} → Option Pending → UnitValue M → Type 0
MayPromiseIn None unit = ⊥
MayPromiseIn (Some pending) unit = MayPromise unit pending.wanted.command pending.wanted.want

abbrev pub MayPromiseNext : {M : Type 0} → LaggingValue M → Type 0
MayPromiseNext disk = MayPromiseIn disk.pending disk.disk.unit

-- ---- an event of it

-- One event, by the rules of a disk whose device is behind, from one conversation to another. At
-- each moment of it a loss of power leaves what may be found of the book before it, perhaps with
-- the write of what is pending or comes, whole.
pub record LagStepMade {M : Type 0} (Promises : Type 0) (refused : Bool) (before after : State)
    (event : Event) (answer : Answer) (old new : LaggingValue M) (book : Book)
    (s : Lagging UnitState) : Type 0 where
  pub later : Book
  pub next : Lagging UnitState
  pub step : UnitLagStep refused s event answer next
  pub stands : StandsFor after new later next
  pub life : IsSameLife book later
  -- no accepted write is lost, and no promise; one is made only where that is told
  pub since : List Write
  pub writes : later.writes ≡ book.writes ++ since
  pub rises : book.mark ≤ later.mark
  pub mark : ¬ Promises → later.mark ≡ book.mark
  pub cuts : book.ours ≡ true
      → LeavesOnly (FoundWith before.size book (event_write s.pending s.now event)) before after
  pub at_exit : book.ours ≡ true
      → EachCut (FoundWith after.size later (pending_write next.pending next.now)) after
  -- the same of the books that the unit fits, whose writes a device that is behind may have
  pub grows : GrowsTo (is_dead new.disk.unit.store.cached) (held_book old book)
      (held_book new later)
  -- a faulted unit accepts and promises nothing
  pub fault : is_dead old.disk.unit.store.cached ≡ true
      → held_book new later ≡ held_book old book
  pub held_cuts : book.ours ≡ true
      → LeavesOnly (MayFind before.size (held_book old book)) before after
  pub held_exit : book.ours ≡ true → EachCut (MayFind after.size (held_book new later)) after

-- an event and its answer, for each conversation that the disk stands for; a faulted unit stays so
pub record IsLagStepBy {M : Type 0} (Promises : Type 0) (refused : Bool) (before after : State)
    (old : LaggingValue M) (event : Event) (answer : Answer) (new : LaggingValue M) : Type 0 where
  pub proceeds : (book : Book) (s : Lagging UnitState) → StandsFor before old book s
      → LagStepMade Promises refused before after event answer old new book s
  pub elapses : Elapses before after
  pub limit_stays : unit_limit new.disk.unit ≡ unit_limit old.disk.unit
  pub packets_stay : new.disk.line.packet_size ≡ old.disk.line.packet_size
  pub layout_stays : layout_of new.disk.unit.store.cached ≡ layout_of old.disk.unit.store.cached
  pub keeps_stays : new.disk.unit.store.cached.log.keeps ≡ old.disk.unit.store.cached.log.keeps
  pub dead_stays : is_dead old.disk.unit.store.cached ≡ true
      → is_dead new.disk.unit.store.cached ≡ true

-- the same, where the medium tells whether a call was refused
abbrev pub IsLagStep : {M : Type 0} → Type 0 → State → State → LaggingValue M → Event → Answer
    → LaggingValue M → Type 0
IsLagStep Promises before after old event answer new =
    IsLagStepBy Promises (has_refused before after) before after old event answer new

-- ---- tokens, and runs of packets

abbrev pub after_token : {M : Type 0} → LaggingValue M → LaggingValue M
after_token d = record d { disk = record d.disk { line = after_in d.disk.line } }

-- behind so many tokens
abbrev pub behind_tokens : {M : Type 0} → LaggingValue M → ℕ → LaggingValue M
behind_tokens d number =
    record d { disk = record d.disk { line = after_tokens number d.disk.line } }

-- so many tokens at once: each is an event of its own
pub record GivesLagRun {M : Type 0} (state : M → State) (old : LaggingValue M) (room : List ℕ)
    (new : LaggingValue M) (filled : List ℕ) (count : ℕ) : Type 0 where
  pub gives : GivesRun old.disk room new.disk filled count
  pub pending : new.pending ≡ old.pending
  pub steps : (number : ℕ) → number < count
      → IsLagStep ⊥ (state old.disk.unit.store.medium) (state old.disk.unit.store.medium)
      (behind_tokens old number) event.In (in_answer (after_tokens number old.disk.line))
      (behind_tokens old (suc number))

-- behind so many packets of data
abbrev pub behind_packets : {M : Type 0} → LaggingValue M → List ℕ → ℕ → LaggingValue M
behind_packets d bytes number = record d {
  disk = record d.disk {
    line = record d.disk.line {
      left = after_first d.disk.line.packet_size bytes number d.disk.line.left;
    };
  };
}

-- so many packets in the midst of data at once: each is an event of its own
pub record TakesLagRun {M : Type 0} (state : M → State) (old : LaggingValue M) (bytes : List ℕ)
    (new : LaggingValue M) (count : ℕ) : Type 0 where
  pub takes : TakesRun old.disk bytes new.disk count
  pub pending : new.pending ≡ old.pending
  pub steps : (number : ℕ) → number < count
      → IsLagStep ⊥ (state old.disk.unit.store.medium) (state old.disk.unit.store.medium)
      (behind_packets old bytes number)
      (event.Out (record { items = packet_of old.disk.line.packet_size bytes number })) Ack
      (behind_packets old bytes (suc number))

-- ---- what is pending

-- what it needs of the device
abbrev pub AreNeeded : {M : Type 0} → UnitValue M → Option Pending → Option Need → Type 0
AreNeeded unit None told = told ≡ None
AreNeeded unit (Some pending) told = (need : Need) × (told ≡ Some need)
    × IsNeeded unit pending.wanted.command pending.wanted.want need

-- what is wanted of the device
abbrev pub want_of : Option Pending → Option Want
want_of None = None
want_of (Some pending) = Some pending.wanted.want

-- Where a command wants the same again fewer steps are left, and else what may follow.
pub record GoesOnward {M : Type 0} (old new : UnitValue M) (want : Want) (next : Option Want)
    : Type 0 where
  pub fewer : next ≡ Some want → steps_left new.store.cached < steps_left old.store.cached
  pub follows : IfSome next (λ later. may_follow (Wants later) want ≡ true)

-- what one step of a command that is pending calls, and that it goes on
abbrev pub CallsOfStep : {M : Type 0} → Option Pending → (M → State) → DiskValue M → DiskValue M
    → Type 0
CallsOfStep None state old new = new.unit ≡ old.unit
CallsOfStep (Some pending) state old new =
    StepCalls (state old.unit.store.medium) (state new.unit.store.medium) pending.wanted.command
    pending.wanted.want old.unit

-- One step of what is pending. One that may promise sends nothing, and a faulted unit makes no
-- call.
pub record MakesStep {M : Type 0} (state : M → State) (Follows : M → M → Type 0)
    (old new : LaggingValue M) : Type 0 where
  pub calls : CallsOfStep old.pending state old.disk new.disk
  pub onward : (pending : Pending) → old.pending ≡ Some pending
      → GoesOnward old.disk.unit new.disk.unit pending.wanted.want (want_of new.pending)
  pub follows : ComesBy state Follows old.disk.unit.store new.disk.unit.store
  pub unsent : MayPromiseNext old
      → SendsUpTo 0 (state old.disk.unit.store.medium) (state new.disk.unit.store.medium)
  pub dead : is_dead old.disk.unit.store.cached ≡ true → new.disk.unit.store ≡ old.disk.unit.store

-- a step in the background is made where nothing is pending
abbrev pub WorksAside : {M : Type 0} → Work → (M → State) → (M → M → Type 0) → Option Pending
    → LaggingValue M → LaggingValue M → Type 0
WorksAside work state Follows None old new =
    (new.pending ≡ None) × WorksDisk work state Follows old.disk new.disk
WorksAside work state Follows (Some pending) old new = new ≡ old

-- ---- what is not an event

-- The medium is armed so, or lets go of a call: nothing else changes, and the disk stands for what
-- it stood for.
pub record ArmsLagging {M : Type 0} (state : M → State) (Arms : M → M → Type 0)
    (old new : LaggingValue M) : Type 0 where
  pub armed : Arms old.disk.unit.store.medium new.disk.unit.store.medium
  pub unchanged : IsUnchanged (state old.disk.unit.store.medium) (state new.disk.unit.store.medium)
  pub rearmed : IsRearmed old.disk new.disk
  pub pending : new.pending ≡ old.pending
  pub stands : (book : Book) (s : Lagging UnitState)
      → StandsFor (state old.disk.unit.store.medium) old book s
      → StandsFor (state new.disk.unit.store.medium) new book s
