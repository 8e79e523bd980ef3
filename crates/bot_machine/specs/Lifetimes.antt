-- Whole lives, told at once.
use Rattle.std.specs.Prelude.{◌≡◌, ◌≤◌, ℕ, ◌+◌, ◌-◌, Bool, true, false, List, [], ◌∷◌, ◌++◌, map}
use Rattle.std.specs.Prelude.{length, sum_by, Option, None, Some}
use Rattle.medium.specs.{Sim.{Sim, state_of}, Power.faults_in, Writes.keeps, Medium.CutLeaves}
use Rattle.scsi_unit.specs.{StartFaults.StartFault, Books.StandsAs, Serving.has_refused}
use Rattle.scsi_unit.specs.Starting.{StandsForSome}
use Rattle.logical_blocks.specs.Book.{Book}
use Rattle.spec.specs.declared.event.{Event.Event, Answer.Answer}
use Rattle.spec.specs.{Conversation.refused_events, Lives.{Action, arms, starts, plays, cuts}}
use Rattle.spec.specs.{Disks.prompt_disk, Promise.{first_standing, IsKept, IsKeptUpTo}}
use Rattle.bot_machine.specs.{declared.lives.life.Life.Life, Answers.Room}
use Rattle.bot_machine.specs.{Device.{presented, Device}, Opening.IsNotOpened}
use Rattle.bot_machine.specs.declared.lives.disk_state.DiskState.TheVariants.{Stopped}
use Rattle.bot_machine.specs.{Moving.{MovesBy, IsRefusedStart}, LivesValue.{LivesValue, HasStarted}}
use Rattle.bot_machine.specs.LivesValue.{LivesGoOn, LivesStop, IsAtRest, OpensOn, HasLimit}
use Rattle.bot_machine.specs.LivesValue.{FitsLives, MayRefuse, faults_armed, state_in}
use Rattle.bot_machine.specs.Fitting.{AreWithin, LivesAreWithin}

-- what is done before the start of a life
abbrev pub armed_by : Option ℕ → List Action
armed_by None = []
armed_by (Some writes) = arms writes ∷ []

-- what is done in a life
abbrev pub actions_of : Life → List Action
actions_of life =
    armed_by life.fuse ++ starts ∷ map plays life.events.items ++ cuts (keeps life.kept) ∷ []

-- what is done in lives, one after the other
abbrev pub actions_of_all : List Life → List Action
actions_of_all [] = []
actions_of_all (life ∷ lives) = actions_of life ++ actions_of_all lives

-- how many events there are in lives
abbrev pub events_in : List Life → ℕ
events_in lives = sum_by (λ (life : Life). length life.events.items) lives

-- these answers were appended
abbrev pub Appends : List Answer → Room → Room → Type 0
Appends told old new = new ≡ record old { list = old.list ++ told }

-- Where the power of a medium is on, nothing is unflushed and no fuse is armed, these lives stand
-- before the first, on each book with which it may open.
abbrev pub StandsFirst : Sim → LivesValue → Type 0
StandsFirst medium lives = (limit : ℕ) (book : Book) → IsAtRest medium → medium.power.fuse ≡ None
    → OpensOn (state_of medium) book
    → HasLimit (state_of medium).size limit (state_of medium).content
    → FitsLives lives (first_standing limit book)

-- lives of this device over a medium, none of which has been yet
pub record AreNew (device : Device) (medium : Sim) (lives : LivesValue) : Type 0 where
  pub value : lives ≡ record { device = device; state = Stopped medium }
  pub first : StandsFirst medium lives

-- How many causes there were for a refusal of a medium in memory: the faults that were armed
-- before, those that these actions armed, and the writes for which there was no room.
abbrev pub causes_in : Sim → List Action → Sim → ℕ
causes_in before actions after =
    faults_in before.power + faults_armed actions + (after.without_room - before.without_room)

-- Actions of a disk over a medium in memory, and their answers, keep the promise, by what its
-- images stand for and what a cut may leave of it.
abbrev pub KeepsPromise : Sim → Device → List Action → List Answer → Sim → Type 0
KeepsPromise before device actions told after =
    let size : ℕ = (state_of before).size in
    IsKept prompt_disk (StandsForSome size) (StandsAs size) (HasLimit size) (presented device)
    (state_of before).content (CutLeaves (state_of before).may_leave) (state_of before).failures
    (state_of after).failures (causes_in before actions after) actions told
    (CutLeaves (state_of after).may_leave)

-- The same up to a start that was refused.
abbrev pub KeepsPromiseUpTo : Sim → Device → List Action → List Answer → Sim → Type 0
KeepsPromiseUpTo before device actions told after =
    let size : ℕ = (state_of before).size in
    IsKeptUpTo prompt_disk (StandsForSome size) (StandsAs size) (HasLimit size) (presented device)
    (state_of before).content (CutLeaves (state_of before).may_leave) (state_of before).failures
    (state_of after).failures (causes_in before actions after) actions told
    (CutLeaves (state_of after).may_leave)

-- a disk was started, no packet of the events is longer than its own, and their answers have room
pub record AwaitsEvents (lives : LivesValue) (events : List Event) (answers : Room) : Type 0 where
  pub started : HasStarted lives.state
  pub within : AreWithin lives.device.packet_size events
  pub room : length answers.list + length events ≤ answers.room

-- Lives may be lived on a medium: the power is on, nothing is unflushed and no fuse is armed, and
-- each event has room for its answer.
pub record AwaitsLives (medium : Sim) (lives : List Life) (answers : Room) : Type 0 where
  pub rests : IsAtRest medium
  pub unfused : medium.power.fuse ≡ None
  pub room : length answers.list + events_in lives ≤ answers.room

-- so may lives of which no packet has more bytes than this
pub record AwaitsLivesWithin (most : ℕ) (medium : Sim) (lives : List Life) (answers : Room)
    : Type 0 where
  pub awaits : AwaitsLives medium lives answers
  pub within : LivesAreWithin most lives

-- lives went on by these actions, and the answers to `events` events were appended
pub record AppendsFor (before after : LivesValue) (old new : Room) (actions : List Action)
    (events : ℕ)
    : Type 0 where
  pub told : List Answer
  pub appends : Appends told old new
  pub one_each : length told ≡ events
  pub goes_on : LivesGoOn before actions told after

-- a life did not begin, since its start was refused with this fault, and nothing was answered
pub record IsNotLived (before after : LivesValue) (old new : Room) (life : Life)
    (fault : StartFault) : Type 0 where
  pub stops : LivesStop before (armed_by life.fuse) [] fault after
  pub cause : IsNotOpened (state_in before.state) (state_in after.state) fault
  pub unanswered : new ≡ old

-- The promise of lives over a medium in memory.
abbrev pub KeepPromise : Sim → Device → List Life → List Answer → Sim → Type 0
KeepPromise before device lives told after =
    KeepsPromise before device (actions_of_all lives) told after

-- Lives of a disk over a medium in memory, and their answers, one for each event. They keep the
-- promise. The actions move the disk and its medium just so, whatever the contents: a fuse and a
-- cut do exactly what they say, a start that was not cut stood on contents that stand for
-- something, a step in the background is one step. The power of the medium that comes back is on,
-- nothing is unflushed, and no fuse is armed.
pub record AreLived (before : Sim) (device : Device) (lives : List Life)
    (told : List Answer) (after : Sim) : Type 0 where
  pub one_each : length told ≡ events_in lives
  pub kept : KeepPromise before device lives told after
  pub moves : MovesBy device (Stopped before) (actions_of_all lives) told kept.refusals
      (Stopped after)
  pub rests : IsAtRest after
  pub unfused : after.power.fuse ≡ None
  pub size_stays : (state_of after).size ≡ (state_of before).size

-- The promise of the first of these lives, where the start of the one after them was refused.
pub record KeepPromiseUpTo (before : Sim) (device : Device) (lives : List Life)
    (told : List Answer) (after : Sim) : Type 0 where
  pub lived : List Life
  pub life : Life
  pub rest : List Life
  pub lives_are : lives ≡ lived ++ life ∷ rest
  pub kept : KeepsPromiseUpTo before device (actions_of_all lived ++ armed_by life.fuse) told after

-- A start was refused with this fault for a cause, on each book with which the first life may open:
-- by the book with which the refused one would have opened, and the refused calls.
abbrev pub IsRefusedFor : (before : Sim) (device : Device) (actions : List Action)
    (told : List Answer) (fault : StartFault) (after : Sim)
    → KeepsPromiseUpTo before device actions told after → Type 0
IsRefusedFor before device actions told fault after kept =
    (limit : ℕ) (book : Book) (opens : OpensOn (state_of before) book)
    (has : HasLimit (state_of before).size limit (state_of before).content) → book.ours ≡ true
    → MayRefuse (kept.lives limit book opens has).next
    (refused_events kept.refusals + (state_of before).failures) (state_of after).failures fault

-- The first of these lives were lived, and left a medium in this state. The start of the one after
-- them was refused with this fault, though power did not go in it: why, whatever the medium held at
-- first.
pub record AreLivedUpTo (before : Sim) (device : Device) (lives : List Life)
    (told : List Answer) (fault : StartFault) (after : Sim) : Type 0 where
  pub up_to : KeepPromiseUpTo before device lives told after
  pub at : Sim
  pub were_lived : AreLived before device up_to.lived told at
  pub cause : IsNotOpened (state_of at) (state_of after) fault
  -- the medium with the fuse of that life, if it has one, on which the start was made
  pub armed : Sim
  pub arming : List Bool
  pub arms : MovesBy device (Stopped at) (armed_by up_to.life.fuse) [] arming (Stopped armed)
  pub start : IsRefusedStart armed fault after
  pub in_start_is : up_to.kept.in_start ≡ has_refused (state_of armed) (state_of after)
  pub refusals_are : up_to.kept.refusals ≡ were_lived.kept.refusals ++ arming
  pub refused : IsRefusedFor before device (actions_of_all up_to.lived ++ armed_by up_to.life.fuse)
      told fault after up_to.kept
  pub on : after.power.off ≡ false
  pub size_stays : (state_of after).size ≡ (state_of before).size
