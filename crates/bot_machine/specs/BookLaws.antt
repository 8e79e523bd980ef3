-- What an event does to the book of a life, by the rules alone.
use Rattle.std.specs.Prelude.{◌≡◌, ◌⊎◌, true, [], ◌∷◌, ◌++◌, length, Bool, Option, Some, None}
use Rattle.logical_blocks.specs.Blocks.{Write}
use Rattle.scsi.specs.Rules.{UnitState}
use Rattle.spec.specs.{declared.event.{Event.Event, Answer.Answer}, Conversation.Conversation}
use Rattle.spec.specs.UnitConversation.{UnitStep, write_of_event}
use Rattle.scsi_unit.specs.Laws.{IsSameLife}
use Rattle.bot_machine.specs.Promising.{PromisesIn}

-- it holds of each event by the rules, from the conversation before it to that behind it
abbrev pub OfEachEvent : (Conversation UnitState → Event → Conversation UnitState → Type 0) → Type 0
OfEachEvent Holds = (refused : Bool) (old new : Conversation UnitState) (event : Event)
    (answer : Answer) → UnitStep refused old event answer new → Holds old event new

-- The accepted writes are those of before, and the write in progress, if there is one. Where that
-- one is not accepted the unit is faulted.
abbrev pub GrowsBy : Option Write → UnitState → UnitState → Type 0
GrowsBy None old new = new.book.writes ≡ old.book.writes
GrowsBy (Some write) old new =
    (new.book.writes ≡ old.book.writes ++ write ∷ [])
    ⊎ ((new.faulted ≡ true) × (new.book.writes ≡ old.book.writes))

-- The promises stay, or a command promises all accepted writes.
abbrev pub MarkMoves : Conversation UnitState → Event → Conversation UnitState → Type 0
MarkMoves old event new =
    (new.unit.book.mark ≡ old.unit.book.mark)
    ⊎ (PromisesIn old event × (new.unit.book.mark ≡ length new.unit.book.writes))

-- a faulted unit stays so, and its book stays as it is
abbrev pub FaultStays : Conversation UnitState → Event → Conversation UnitState → Type 0
FaultStays old event new = old.unit.faulted ≡ true
    → (new.unit.faulted ≡ true) × (new.unit.book ≡ old.unit.book)

-- what holds of each event
pub record AreBookLaws : Type 0 where
  pub life : OfEachEvent (λ old event new. IsSameLife old.unit.book new.unit.book)
  pub writes : OfEachEvent (λ old event new. GrowsBy (write_of_event old event) old.unit new.unit)
  pub mark : OfEachEvent MarkMoves
  pub fault : OfEachEvent FaultStays
