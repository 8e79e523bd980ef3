-- Lives of a disk over a medium in memory, and where they stand.
use Rattle.std.specs.Prelude.{◌≡◌, ◌↔◌, ℕ, ◌+◌, ◌^◌, ◌≤◌, ◌<◌, ⊤, Bool, true, false, List, [], ◌∷◌}
use Rattle.std.specs.Prelude.{◌++◌, Option, None, Some, count_by, Result, OnOk, IfErr}
use Rattle.medium.specs.{Medium.Image, Moments.EachCut, Power.{faults_in, powered}, Tally.none}
use Rattle.medium.specs.Sim.{Sim, state_of, ComesAfter}
use Rattle.scsi_unit.specs.StartFaults.{StartFault, NoMemory, Read, Write, Flush, BadSuper}
use Rattle.scsi_unit.specs.StartFaults.{BadVersion, BadSize, BadHead, StampsUsedUp, LogTooSmall}
use Rattle.scsi_unit.specs.{Serving.has_refused, Starting.Stands, Books.{StandsAs, MayFind}}
-- the limit of a disk is that of the image that it starts on
pub use Rattle.scsi_unit.specs.Starting.{HasLimit}
pub use Rattle.bot_machine.specs.Moving.{medium_in, state_in}
use Rattle.bot_machine.specs.Moving.{MovesBy, IsRefusedStart}
use Rattle.bot_machine.specs.declared.lives.disk_state.DiskState.{DiskState}
use Rattle.bot_machine.specs.declared.lives.disk_state.DiskState.TheVariants.{Stopped, Running}
use Rattle.bot_machine.specs.{Device.{presented, Device}, Fitting.IsWithin}
use Rattle.bot_machine.specs.{Disk.{DiskValue, over, FitsDisk}, Opening.IsNotOpened}
-- a first life over a medium opens with a book as its unit does
pub use Rattle.scsi_unit.specs.Starting.{OpensOn}
use Rattle.logical_blocks.specs.Book.{Book}
use Rattle.scsi.specs.Rules.{UnitState}
use Rattle.spec.specs.declared.event.Event.{Event}
use Rattle.spec.specs.{declared.event.Answer.Answer, declared.event.Answer.TheVariants.Off}
use Rattle.spec.specs.{Conversation.{Conversation, refused_events}, Lives.{Action, Place}}
use Rattle.spec.specs.Lives.{before_first, between, runs, off, Standing, Opens, arms, fails, starts}
use Rattle.spec.specs.{Lives.{plays, LivesRun}, Disks.prompt_disk}
use Rattle.spec.specs.Promise as promise

-- what is seen of lives: what disk it is, and its medium, with the disk where one runs
pub record LivesValue : Type 0 where
  pub device : Device
  pub state : DiskState

-- a disk was started, or power went in its start
abbrev pub HasStarted : DiskState → Type 0
HasStarted (Stopped medium) = medium.power.off ≡ true
HasStarted (Running disk) = ⊤

-- a disk that runs has packets of this size
abbrev pub HasPackets : ℕ → DiskState → Type 0
HasPackets size (Stopped medium) = ⊤
HasPackets size (Running disk) = disk.line.packet_size ≡ size

-- a disk that runs still has packets of the size that it had
abbrev pub KeepsPackets : DiskState → DiskState → Type 0
KeepsPackets old new = (size : ℕ) → HasPackets size old → HasPackets size new

-- the medium is armed so, and a disk that runs over it has packets of the same size
pub record ArmsState (Arms : Sim → Sim → Type 0) (old new : DiskState) : Type 0 where
  pub armed : Arms (medium_in old) (medium_in new)
  pub packets : KeepsPackets old new

-- a disk was started, and the event's packet is no longer than those of the disk
pub record AwaitsEvent (lives : LivesValue) (event : Event) : Type 0 where
  pub started : HasStarted lives.state
  pub within : IsWithin lives.device.packet_size event

-- where a disk runs, the event's packet is no longer than those of the disk
abbrev pub TakesEvent : DiskState → Event → Type 0
TakesEvent (Stopped medium) event = ⊤
TakesEvent (Running disk) event = IsWithin disk.line.packet_size event

-- A life has begun: a disk was started, or power went in its start. Where none ran before, and the
-- power is on, the contents of the medium stood for something.
pub record HasBegun (old new : DiskState) : Type 0 where
  pub started : HasStarted new
  pub stood : (medium : Sim) → old ≡ Stopped medium → (medium_in new).power.off ≡ false
      → Stands (state_of medium).size (state_of medium).content

-- the power is on, and nothing is unflushed
pub record IsAtRest (medium : Sim) : Type 0 where
  pub on : medium.power.off ≡ false
  pub flushed : medium.unflushed ≡ []

-- a life that ended rests alone, with no fuse
pub record RestsAlone (lives : LivesValue) : Type 0 where
  pub rests : IsAtRest (medium_in lives.state)
  pub unfused : (medium_in lives.state).power.fuse ≡ None
  pub alone : lives.state ≡ Stopped (medium_in lives.state)

-- a disk is in this conversation, and fits its book
pub record Converses (disk : DiskValue Sim) (conversation : Conversation UnitState) : Type 0 where
  pub on : disk.unit.store.medium.power.off ≡ false
  pub says : conversation ≡ over disk conversation.unit.book
  pub fits : FitsDisk (state_of disk.unit.store.medium) disk conversation.unit.book

-- a disk, or a medium without one, at a place of lives
abbrev pub IsAt : Place prompt_disk → DiskState → Type 0
IsAt (before_first book) (Stopped medium) = IsAtRest medium × OpensOn (state_of medium) book
IsAt (before_first book) (Running disk) = ⊥
IsAt (between remains) (Stopped medium) = IsAtRest medium
IsAt (between remains) (Running disk) = ⊥
IsAt (runs conversation) (Stopped medium) = ⊥
IsAt (runs conversation) (Running disk) = Converses disk conversation
IsAt (off remains) state = (medium_in state).power.off ≡ true

-- the book of a place
abbrev pub book_at : Place prompt_disk → Book
book_at (before_first book) = book
book_at (between remains) = remains.book
book_at (runs conversation) = conversation.unit.book
book_at (off remains) = remains.book

-- an image that a cut may leave of lives that stand here
abbrev pub FoundAt : ℕ → Place prompt_disk → Image → Type 0
FoundAt size place image = promise.FoundAt (StandsAs size) place image

-- the limit of lives that stand here: the contents have it when the first begins, and a disk that
-- runs
abbrev pub LimitAt : Place prompt_disk → ℕ → DiskState → Type 0
LimitAt (before_first book) limit state =
    HasLimit (state_in state).size limit (state_in state).content
LimitAt (between remains) limit state = ⊤
LimitAt (runs conversation) limit state = limit ≡ conversation.unit.limit
LimitAt (off remains) limit state = ⊤

-- every image that a cut may leave of this state has this limit
abbrev pub LeavesLimit : ℕ → DiskState → Type 0
LeavesLimit limit state = EachCut (HasLimit (state_in state).size limit) (state_in state)

-- lives stand here
pub record FitsLives (lives : LivesValue) (here : Standing prompt_disk) : Type 0 where
  pub is_at : IsAt here.place lives.state
  pub limit_at : LimitAt here.place here.limit lives.state
  pub limited : (book_at here.place).ours ≡ true → LeavesLimit here.limit lives.state
  pub found : (book_at here.place).ours ≡ true
      → EachCut (FoundAt (state_in lives.state).size here.place) (state_in lives.state)
  pub unfused : here.armed ≡ false → (medium_in lives.state).power.fuse ≡ None

-- from one standing, by actions and their answers, to one where these lives stand
pub record LivesGoTo (after : LivesValue) (here : Standing prompt_disk) (actions : List Action)
    (answers : List Answer) (refusals : List Bool) : Type 0 where
  pub there : Standing prompt_disk
  pub run : LivesRun (presented after.device) here actions answers refusals there
  pub fits : FitsLives after there
  pub ours : (book_at there.place).ours ≡ (book_at here.place).ours
  -- the format of an image never changes
  pub limit_stays : (book_at here.place).ours ≡ true → there.limit ≡ here.limit

-- does this action arm a fault of the medium: a fuse, or a failure?
abbrev pub is_fault : Action → Bool
is_fault (arms writes) = true
is_fault (fails call) = true
is_fault action = false

-- how many faults these actions arm
abbrev pub faults_armed : List Action → ℕ
faults_armed actions = count_by is_fault actions

-- Each action in which the medium refused a call used up a fault, which was armed before or by one
-- of these actions, or there was no room for a write. The faults that are left are counted too.
abbrev pub AreCaused : Sim → List Action → List Bool → Sim → Type 0
AreCaused before actions refusals after =
    refused_events refusals + faults_in after.power + before.without_room
    ≤ faults_in before.power + faults_armed actions + after.without_room

-- Lives go on by these actions, with these answers: so does the disk itself, and so do the lives of
-- each book. The actions in which the medium refused a call are the same, at most as many as the
-- calls that it refused, and each has a cause.
pub record LivesGoOn (before : LivesValue) (actions : List Action) (answers : List Answer)
    (after : LivesValue) : Type 0 where
  pub refusals : List Bool
  pub moves : MovesBy before.device before.state actions answers refusals after.state
  pub refused : refused_events refusals + (state_in before.state).failures
      ≤ (state_in after.state).failures
  pub caused : AreCaused (medium_in before.state) actions refusals (medium_in after.state)
  pub goes : (here : Standing prompt_disk) → FitsLives before here
      → LivesGoTo after here actions answers refusals
  pub size_stays : (state_in after.state).size ≡ (state_in before.state).size
  pub device_stays : after.device ≡ before.device

-- Why a life that would open with this book is refused: for want of memory, by the medium, whose
-- refusals are more than were counted before, or since no stamp is left.
abbrev pub MayRefuse : Book → ℕ → ℕ → StartFault → Type 0
MayRefuse book counted failures NoMemory = ⊤
MayRefuse book counted failures Read = counted < failures
MayRefuse book counted failures Write = counted < failures
MayRefuse book counted failures Flush = counted < failures
MayRefuse book counted failures BadSuper = ⊥
MayRefuse book counted failures BadVersion = ⊥
MayRefuse book counted failures BadSize = ⊥
MayRefuse book counted failures BadHead = ⊥
MayRefuse book counted failures StampsUsedUp = 2 ^ 63 ≤ book.stamp
MayRefuse book counted failures LogTooSmall = ⊥

-- from one standing, by actions and their answers, to one from where the next start was refused
pub record LivesStopAt (after : LivesValue) (here : Standing prompt_disk) (actions : List Action)
    (answers : List Answer) (refusals : List Bool) (counted : ℕ) (fault : StartFault)
    : Type 0 where
  pub there : Standing prompt_disk
  pub run : LivesRun (presented after.device) here actions answers refusals there
  -- the book with which the life would have opened
  pub book : Book
  pub opens : Opens there.place book
  pub ours : book.ours ≡ (book_at here.place).ours
  pub cause : book.ours ≡ true → MayRefuse book counted (state_in after.state).failures fault
  pub limited : book.ours ≡ true → LeavesLimit here.limit after.state
  pub found : book.ours ≡ true
      → EachCut (MayFind (state_in after.state).size book) (state_in after.state)

-- Lives went on by these actions, with these answers, and then a start was refused with this fault,
-- though power did not go in it. No disk runs.
pub record LivesStop (before : LivesValue) (actions : List Action) (answers : List Answer)
    (fault : StartFault) (after : LivesValue) : Type 0 where
  pub refusals : List Bool
  -- the medium on which the start was made that is refused
  pub at : Sim
  pub moves : MovesBy before.device before.state actions answers refusals (Stopped at)
  pub start : IsRefusedStart at fault (medium_in after.state)
  -- did the medium refuse a call in that start?
  pub in_start : Bool
  pub counted : in_start ≡ has_refused (state_of at) (state_in after.state)
  pub refused : refused_events (refusals ++ in_start ∷ []) + (state_in before.state).failures
      ≤ (state_in after.state).failures
  pub caused : AreCaused (medium_in before.state) actions (refusals ++ in_start ∷ [])
      (medium_in after.state)
  pub goes : (here : Standing prompt_disk) → FitsLives before here
      → LivesStopAt after here actions answers refusals
      (refused_events refusals + (state_in before.state).failures) fault
  pub rests : after.state ≡ Stopped (medium_in after.state)
  pub on : (medium_in after.state).power.off ≡ false
  pub size_stays : (state_in after.state).size ≡ (state_in before.state).size
  pub device_stays : after.device ≡ before.device

-- a start is refused with this fault, though power did not go in it: why, and where lives stand
-- then
pub record LivesRefuseStart (before : LivesValue) (fault : StartFault) (after : LivesValue)
    : Type 0 where
  pub stops : LivesStop before [] [] fault after
  pub cause : IsNotOpened (state_in before.state) (state_in after.state) fault

-- A disk is started where none ran and the power is on: lives go on by it, or the start is refused.
pub record LifeBegins (before : LivesValue) (result : Result (Unit {0}) StartFault)
    (after : LivesValue) : Type 0 where
  pub ok : OnOk result (LivesGoOn before (starts ∷ []) [] after)
  pub begun : OnOk result (HasBegun before.state after.state)
  pub err : IfErr result (λ fault. LivesRefuseStart before fault after)
  pub follows : ComesAfter (medium_in before.state) (medium_in after.state)

-- An event came to lives, and a disk was started first where none ran: lives go on by both. The
-- answer is that of a disk without power just where the power is off.
pub record LivesAnswer (before : LivesValue) (event : Event) (answer : Answer) (after : LivesValue)
    : Type 0 where
  pub goes_on : LivesGoOn before (starts ∷ plays event ∷ []) (answer ∷ []) after
  pub begun : HasBegun before.state after.state
  pub off : (answer ≡ Off) ↔ ((medium_in after.state).power.off ≡ true)

-- what an event leaves that was answered so: the answer is that of a disk without power just where
-- the power is off
pub record DiskAnswers (before : DiskState) (answer : Answer) (after : DiskState) : Type 0 where
  pub started : HasStarted after
  pub off : (answer ≡ Off) ↔ ((medium_in after).power.off ≡ true)
  pub packets : KeepsPackets before after
  pub follows : ComesAfter (medium_in before) (medium_in after)

-- a medium that holds nothing, where none is kept; that is so within a call alone
abbrev pub disk_state_in : Option DiskState → DiskState
disk_state_in None = Stopped (record {
  flushed = [];
  unflushed = [];
  room = 0;
  power = powered;
  flushes = 0;
  calls = 0;
  made = none;
  refused = none;
  without_room = 0;
})
disk_state_in (Some state) = state
