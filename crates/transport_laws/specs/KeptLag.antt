-- What is kept of a life of a disk whose device may be behind is kept of one of a disk that acts on
-- each packet at once, and a loss of power leaves the same.
use Rattle.std.specs.Prelude.{◌≡◌, ◌≤◌, ℕ, Bool, true, false, List, [], ◌∷◌, ◌++◌, map, Option}
use Rattle.std.specs.Prelude.{Some, None}
use Rattle.logical_blocks.specs.Book.{Book}
use Rattle.scsi.specs.Rules.{UnitState, CarriesOut, Ticks}
use Rattle.spec.specs.declared.event.{Event.Event, Answer.Answer}
use Rattle.spec.specs.declared.event.Event.TheVariants as event
use Rattle.spec.specs.declared.event.Answer.TheVariants as answer
use Rattle.spec.specs.{Conversation.refused_events, UnitConversation.{Intends, write_of_event}}
use Rattle.spec.specs.Lagging.{Lagging, settled, LagStep}
use Rattle.spec.specs.Lives.{Presentation, DiskRules, Action, arms, starts, plays, Place}
use Rattle.spec.specs.Lives.{before_first, between, runs, off, Standing, Remains, LivesRun}
use Rattle.spec.specs.Lives.{after_cut}
use Rattle.spec.specs.Disks.{prompt_disk, lagging_disk}
use Rattle.transport_laws.specs.HiddenLag.{DropsNone, Transaction, outs, ins, setups}

-- the disk whose device may be behind, where no class reset comes while a packet is pending
abbrev pub undropped_disk : DiskRules
undropped_disk = record lagging_disk {
  step = λ refused old happens answer new.
      LagStep Intends CarriesOut Ticks DropsNone refused old happens answer new;
}

-- where a life begins, whatever the rules of its disk
pub record Beginning : Type 0 where
  -- what the life before has left, if there was one
  pub before : Option Remains
  -- the book with which the first life opens
  pub book : Book
  -- a fuse was armed before the start
  pub armed : Bool
  pub limit : ℕ

abbrev pub place_at : {rules : DiskRules} → Option Remains → Book → Place rules
place_at None book = before_first book
place_at (Some remains) book = between remains

abbrev pub standing_at : {rules : DiskRules} → Beginning → Standing rules
standing_at begins = record {
  place = place_at begins.before begins.book;
  armed = begins.armed;
  limit = begins.limit;
}

-- what was answered for the packet that is pending
abbrev pub acknowledged : Option (List ℕ) → List Transaction
acknowledged None = []
acknowledged (Some packet) = record { packet = packet; answer = answer.Ack } ∷ []

-- power goes in the event of the packet that is pending
abbrev pub lost_in : Option (List ℕ) → List Action
lost_in None = []
lost_in (Some packet) = arms 0 ∷ plays (event.Out (record { items = packet })) ∷ []

abbrev pub lost_answers : Option (List ℕ) → List Answer
lost_answers None = []
lost_answers (Some packet) = answer.Off ∷ []

abbrev pub lost_refusals : Option (List ℕ) → List Bool
lost_refusals None = []
lost_refusals (Some packet) = false ∷ true ∷ []

-- A life of a disk that acts on each packet at once, in which the same came of all tokens, packets
-- and requests, and no event more has a refused call. Where a packet is still pending, its event is
-- the last, and power goes in it. A loss of power leaves the same for the next life.
pub record KeptAtOnce (disk : Presentation) (begins : Beginning) (events : List Event)
    (answers : List Answer) (refusals : List Bool) (now : Lagging UnitState) : Type 0 where
  pub plain : List Event
  pub reported : List Answer
  pub refused : List Bool
  pub last : Standing prompt_disk
  pub run : LivesRun disk (standing_at begins)
      (starts ∷ map plays plain ++ lost_in now.pending) (reported ++ lost_answers now.pending)
      (refused ++ lost_refusals now.pending) last
  pub same_outs : outs plain reported ++ acknowledged now.pending ≡ outs events answers
  pub same_ins : ins plain reported ≡ ins events answers
  pub same_setups : setups plain reported ≡ setups events answers
  pub few : refused_events refused ≤ refused_events refusals
  pub left : (remains : Remains) → after_cut {rules = undropped_disk} (runs now) ≡ between remains
      → after_cut last.place ≡ between remains
  -- in whatever event power goes meanwhile, the packet's write is in progress
  pub meanwhile : (packet : List ℕ) → now.pending ≡ Some packet → (happens : Event)
      → undropped_disk.write_in now happens
      ≡ write_of_event now.now (event.Out (record { items = packet }))

-- each life of that disk in which no packet is dropped, up to any moment at which it runs
abbrev pub LagsAreKept : Type 0
LagsAreKept = (disk : Presentation) (begins : Beginning) (events : List Event)
    (answers : List Answer) (refusals : List Bool) (here : Standing undropped_disk)
    (now : Lagging UnitState)
    → LivesRun disk (standing_at begins) (starts ∷ map plays events) answers refusals here
    → here.place ≡ runs now → KeptAtOnce disk begins events answers refusals now

-- where a disk that acts on each packet at once stands, as one whose device may be behind:
-- nothing is pending
abbrev pub place_behind : Place prompt_disk → Place lagging_disk
place_behind (before_first book) = before_first book
place_behind (between remains) = between remains
place_behind (runs now) = runs (settled now)
place_behind (off remains) = off remains

abbrev pub standing_behind : Standing prompt_disk → Standing lagging_disk
standing_behind here = record {
  place = place_behind here.place;
  armed = here.armed;
  limit = here.limit;
}

-- lives of a disk that acts on each packet at once are lives of one whose device may be behind
abbrev pub PromptLivesLag : Type 0
PromptLivesLag = (disk : Presentation) (old new : Standing prompt_disk) (actions : List Action)
    (answers : List Answer) (refusals : List Bool) → LivesRun disk old actions answers refusals new
    → LivesRun disk (standing_behind old) actions answers refusals (standing_behind new)
