-- Lives of a disk: each opens with a start, and ends with a loss of power. They are told by books
-- and conversations alone: an array, whole writes to it, and what a host and a disk say to one
-- another. The rules of the disk are handed in.
use Rattle.std.specs.Prelude.{◌≡◌, ◌⊎◌, ℕ, ◌+◌, ◌≤◌, Bool, true, false, List, [], ◌∷◌, ◌++◌, length}
use Rattle.std.specs.Prelude.{Option, None}
use Rattle.logical_blocks.specs.Blocks.{Write}
use Rattle.logical_blocks.specs.Book.{Book, after_first, opened}
use Rattle.logical_blocks.specs.Book.{with_progress}
use Rattle.spec.specs.declared.event.Event.{Event}
use Rattle.spec.specs.declared.event.Answer.{Answer}
use Rattle.spec.specs.declared.event.Answer.TheVariants.{Off}
use Rattle.scsi.specs.Identification.{Identification}

-- how a disk presents itself: who it is, and how many bytes a bulk packet has at most
pub record Presentation : Type 0 where
  pub identity : Identification
  pub packet_size : ℕ

-- the rules of a disk, as lives of it need them
pub record DiskRules : Type 1 where
  -- what a conversation with the disk has come to
  pub State : Type 0
  -- a disk that has just started, with this limit, this presentation and this book
  pub started : ℕ → Presentation → Book → State
  -- the book of the life
  pub book : State → Book
  -- one event, its answer, and the state after it, where the medium refused a call in it or refused
  -- none
  pub step : Bool → State → Event → Answer → State → Type 0
  -- the write that is in progress in an event, if there is one
  pub write_in : State → Event → Option Write
  -- the write that is in progress between two events, if there is one
  pub write_now : State → Option Write

-- what is done to a disk over its lives
pub data Action : Type 0 where
  -- a fuse is armed: this many more writes and flushes of the medium happen
  arms : ℕ → Action
  -- a failure is armed: the medium refuses its call with this number from now on, once
  fails : ℕ → Action
  -- a disk starts, where none runs
  starts : Action
  -- an event comes to a disk that was started
  plays : Event → Action
  -- power is cut; which of the unflushed writes are kept, by their numbers
  cuts : (ℕ → Bool) → Action

-- what a life leaves behind: its book at the end of its last whole event, and the write, if there
-- is one, of the event that was cut
pub record Remains : Type 0 where
  pub book : Book
  pub in_progress : Option Write

-- where lives of a disk by these rules stand
pub data Place (rules : DiskRules) : Type 0 where
  -- no life was before: the first opens with this book
  before_first : Book → Place rules
  -- a life is over, and the next has not begun
  between : Remains → Place rules
  -- a disk runs
  runs : rules.State → Place rules
  -- power went in this life
  off : Remains → Place rules

pub record Standing (rules : DiskRules) : Type 0 where
  pub place : Place rules
  -- a fuse was armed in this life
  pub armed : Bool
  -- the most blocks of one READ or WRITE: it is told by the image
  pub limit : ℕ

-- The next life may find these blocks, with this next stamp: those after the first count accepted
-- writes, the promised ones at least, perhaps with the write in progress, whole.
pub record IsLeft (remains : Remains) (next : Book) : Type 0 where
  pub book : Book
  pub accepts : (book ≡ remains.book) ⊎ (book ≡ with_progress remains.book remains.in_progress)
  pub count : ℕ
  pub promises : remains.book.mark ≤ count
  pub accepted : count ≤ length book.writes
  pub blocks : next.blocks ≡ book.blocks
  pub opening : next.opening ≡ after_first count book
  pub stamp : next.stamp ≤ book.stamp + length book.writes + 1

-- The next life opens with no writes, and nothing promised: with what the one before has left,
-- where every image of the medium was ours when the lives began.
pub record OpensAfter (remains : Remains) (next : Book) : Type 0 where
  pub opens : next ≡ opened next.blocks next.opening next.stamp remains.book.ours
  pub left : remains.book.ours ≡ true → IsLeft remains next

module _ {rules : DiskRules} where
  -- a life that begins at this place opens with this book
  abbrev pub Opens : Place rules → Book → Type 0
  Opens (before_first book) next = next ≡ book
  Opens (between remains) next = OpensAfter remains next
  Opens place next = ⊥

  -- A life that begins at this place has this limit: the first that of the image with which the
  -- lives began, and a later one, where every image was ours then, that of the life before.
  abbrev pub KeepsLimit : Place rules → ℕ → ℕ → Type 0
  KeepsLimit (before_first book) old limit = limit ≡ old
  KeepsLimit (between remains) old limit = remains.book.ours ≡ true → limit ≡ old
  KeepsLimit place old limit = ⊥

  -- Power goes: only where a fuse was armed in this life, and in a call that the medium refused.
  pub record PowerGoes (refused : Bool) (remains : Remains) (old new : Standing rules)
      : Type 0 where
    pub fused : old.armed ≡ true
    pub cause : refused ≡ true
    pub after : new ≡ record old { place = off remains }

  -- a life begins: its disk runs, or power goes in the start
  pub record LifeBegins (disk : Presentation) (refused : Bool) (old new : Standing rules)
      : Type 0 where
    pub book : Book
    pub opens : Opens old.place book
    pub limit : ℕ
    pub keeps_limit : KeepsLimit old.place old.limit limit
    pub begins : (new ≡ record old { place = runs (rules.started limit disk book); limit = limit })
        ⊎ PowerGoes refused (record { book = book; in_progress = None }) old new

  -- a start changes nothing where a disk runs, or where power is off
  abbrev pub StartsAt : Place rules → Presentation → Bool → Standing rules → Standing rules
      → Type 0
  StartsAt (before_first book) disk refused old new = LifeBegins disk refused old new
  StartsAt (between remains) disk refused old new = LifeBegins disk refused old new
  StartsAt place disk refused old new = new ≡ old

  -- an event that is whole
  pub record EventEnds (conversation : rules.State) (refused : Bool) (event : Event)
      (answer : Answer) (old new : Standing rules) : Type 0 where
    pub later : rules.State
    pub step : rules.step refused conversation event answer later
    pub after : new ≡ record old { place = runs later }

  -- an event in which power goes
  pub record EventIsCut (conversation : rules.State) (refused : Bool) (event : Event)
      (answer : Answer) (old new : Standing rules) : Type 0 where
    pub answered : answer ≡ Off
    pub goes : PowerGoes refused (record {
      book = rules.book conversation;
      in_progress = rules.write_in conversation event;
    }) old new

  -- an event: it is whole, or power goes in it; where power is off, nothing changes
  abbrev pub PlaysAt : Place rules → Bool → Event → Answer → Standing rules → Standing rules
      → Type 0
  PlaysAt (runs conversation) refused event answer old new =
      EventEnds conversation refused event answer old new
      ⊎ EventIsCut conversation refused event answer old new
  PlaysAt (off remains) refused event answer old new = (answer ≡ Off) × (new ≡ old)
  PlaysAt place refused event answer old new = ⊥

  -- where lives stand after a cut
  abbrev pub after_cut : Place rules → Place rules
  after_cut (runs conversation) =
      between (record {
        book = rules.book conversation;
        in_progress = rules.write_now conversation;
      })
  after_cut (off remains) = between remains
  after_cut place = place

  -- One action and its answers, none or one; did the medium refuse a call in it?
  abbrev pub LivesStep : Presentation → Bool → Standing rules → Action → List Answer
      → Standing rules → Type 0
  LivesStep disk refused old (arms writes) answers new =
      (answers ≡ []) × (new ≡ record old { armed = true })
  LivesStep disk refused old (fails call) answers new = (answers ≡ []) × (new ≡ old)
  LivesStep disk refused old starts answers new =
      (answers ≡ []) × StartsAt old.place disk refused old new
  LivesStep disk refused old (plays event) answers new =
      (answer : Answer) × (answers ≡ answer ∷ []) × PlaysAt old.place refused event answer old new
  LivesStep disk refused old (cuts keeps) answers new =
      (answers ≡ []) × (new ≡ record old { place = after_cut old.place; armed = false })

  -- Actions and their answers, in order. The truth values say in which the medium refused a call.
  abbrev pub LivesRun : Presentation → Standing rules → List Action → List Answer → List Bool
      → Standing rules → Type 0
  LivesRun disk old [] answers [] new = (answers ≡ []) × (new ≡ old)
  LivesRun disk old (action ∷ actions) answers (refused ∷ refusals) new =
      (mid : Standing rules) × (here : List Answer) × (later : List Answer)
      × (answers ≡ here ++ later)
      × LivesStep disk refused old action here mid
      × LivesRun disk mid actions later refusals new
  LivesRun disk old actions answers refusals new = ⊥
