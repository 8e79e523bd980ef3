-- Events played on a disk.
use Rattle.std.specs.{Prelude.{ℕ, Bool, List, [], ◌∷◌, ◌++◌, Option}, Io.KnownBytes.Appends}
use Rattle.medium.specs.Medium.{State}
use Rattle.spec.specs.{declared.event.Event.Event, declared.event.Answer.Answer}
use Rattle.bot_machine.specs.Disk.{DiskValue, StepsThrough}
use Rattle.usbdisk.specs.console.Streams.{AppendsUpTo}
use Rattle.usbdisk.specs.runner.Text.{line_for, text_of}

-- how a disk goes through events: step by step, each of which follows for its medium
abbrev pub StepsOn : {M : Type 0} → (M → State) → (M → M → Type 0) → DiskValue M → List Event
    → List Answer → DiskValue M → Type 0
StepsOn state Follows old events answers new =
    (refusals : List Bool) × StepsThrough state old events answers refusals new
    × Follows old.unit.store.medium new.unit.store.medium

-- the most bytes of a packet of a disk
abbrev pub packets_of : {M : Type 0} → DiskValue M → ℕ
packets_of disk = disk.line.packet_size

-- each event of a disk has an answer
abbrev pub HasNoAnswer : {M : Type 0} → DiskValue M → Event → DiskValue M → Type 0
HasNoAnswer old event new = ⊥

-- how a player goes through events; what was written then, and now
module _ {D : Type 0} (Goes : D → List Event → List Answer → D → Type 0)
    (was now : Option (List ℕ)) where
  -- it played them, and exactly the text of the answers was appended
  pub record TellsBy (old : D) (events : List Event) (new : D) : Type 0 where
    pub answers : List Answer
    pub goes : Goes old events answers new
    pub written : Appends was now (text_of events answers)

  -- It played events, whose answers were written, and then one more, whose answer was not written
  -- whole.
  pub record BreaksOffBy (old : D) (events : List Event) (event : Event) (new : D) : Type 0 where
    pub answers : List Answer
    pub answer : Answer
    pub goes : Goes old (events ++ event ∷ []) (answers ++ answer ∷ []) new
    pub written : AppendsUpTo was now (text_of events answers) (line_for event answer)

  -- It played events, whose answers were written, and had no answer to the next. Of that one
  -- nothing was written.
  pub record GivesUpBy (Stops : D → Event → D → Type 0) (old : D) (events : List Event)
      (event : Event) (new : D) : Type 0 where
    pub mid : D
    pub tells : TellsBy old events mid
    pub stops : Stops mid event new
