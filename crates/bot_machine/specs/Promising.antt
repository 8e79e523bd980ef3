-- Whether an event has a command carried out that promises.
use Rattle.std.specs.Prelude.{◌≡◌, Bool, true, false, List, ℕ}
use Rattle.spec.specs.{declared.event.Event.Event, Conversation.Conversation}
use Rattle.scsi.specs.Rules.{UnitState, checked}
use Rattle.scsi_unit.specs.Promising.{promises_for}
use Rattle.bot_machine.specs.Acts.{EventCarriesOut}

-- a unit in this state promises by a good answer to this command block
abbrev pub promises_by : UnitState → List ℕ → Bool
promises_by unit block = promises_for (checked unit block) unit.write_cache

-- none of the command blocks that are carried out promises
abbrev pub NonePromises : UnitState → (List ℕ → List ℕ → Type 0) → Type 0
NonePromises unit CarriedOut = (block taken : List ℕ) → CarriedOut block taken
    → promises_by unit block ≡ false

-- one of them does
pub record OnePromises (unit : UnitState) (CarriedOut : List ℕ → List ℕ → Type 0) : Type 0 where
  pub block : List ℕ
  pub taken : List ℕ
  pub carried_out : CarriedOut block taken
  pub promising : promises_by unit block ≡ true

-- an event has no command carried out that promises
abbrev pub PromisesNone : Conversation UnitState → Event → Type 0
PromisesNone s event = NonePromises s.unit (EventCarriesOut s event)

-- it has one carried out that does
abbrev pub PromisesIn : Conversation UnitState → Event → Type 0
PromisesIn s event = OnePromises s.unit (EventCarriesOut s event)
