-- What an event has the unit do: carry out a command, or make a step in the background.
use Rattle.spec.specs.declared.event.Event.TheVariants as event
use Rattle.std.specs.Prelude.{◌≡◌, ⊤, ◌≤◌, ℕ, Bool, true, false, List, [], ◌++◌, length, take}
use Rattle.spec.specs.{declared.wrapper.Cbw.Cbw, declared.way.Way.Way, declared.case.Case.Case}
use Rattle.spec.specs.{CommandWrapper.SpellsCommand, Cases.{IsCase, size_of_way}}
use Rattle.scsi.specs.Rules.{UnitState}
use Rattle.spec.specs.declared.event.Event.{Event}
use Rattle.spec.specs.Exchange.{Script, finished, taking, sending, at_once, moment_of}
use Rattle.spec.specs.{Conversation.Conversation, UnitConversation.Intends}

-- the packet spells the wrapper of a command that is carried out at once, over no bytes
pub record CarriesOutAtOnce (packet : List ℕ) (unit : UnitState) (block taken : List ℕ)
    : Type 0 where
  pub command : Cbw
  pub intended : Way
  pub case : Case
  pub spelled : SpellsCommand packet command
  pub intends : Intends unit command.block.items intended
  pub is_case : IsCase case command.host intended
  pub is_at_once : moment_of case ≡ at_once
  pub block_is : block ≡ command.block.items
  pub none_taken : taken ≡ []

-- the packet, of at most `most` bytes, ends the data of a command, which is carried out over the
-- intended bytes
pub record CarriesOutLast (most : ℕ) (command : Cbw) (intended : Way) (bytes : List ℕ) (due : ℕ)
    (packet : List ℕ) (block taken : List ℕ) : Type 0 where
  pub size : length packet ≡ due
  pub last : due ≤ most
  pub block_is : block ≡ command.block.items
  pub taken_is : taken ≡ take (size_of_way intended) (bytes ++ packet)

-- a packet of at most `most` bytes to Bulk-Out, which is halted or not, has this command block
-- carried out over these bytes
abbrev pub PacketCarriesOut : ℕ → Bool → Script → List ℕ → UnitState → List ℕ → List ℕ → Type 0
PacketCarriesOut most true left packet unit block taken = ⊥
PacketCarriesOut most false finished packet unit block taken =
    CarriesOutAtOnce packet unit block taken
PacketCarriesOut most false (taking case command intended bytes due) packet unit block taken =
    CarriesOutLast most command intended bytes due packet block taken
PacketCarriesOut most false (sending packets halt status) packet unit block taken = ⊥

-- an event has this command block carried out over these bytes
abbrev pub EventCarriesOut : Conversation UnitState → Event → List ℕ → List ℕ → Type 0
EventCarriesOut s (event.Out packet) block taken =
    PacketCarriesOut s.line.packet_size s.line.out_halted s.line.left packet.items s.unit
    block taken
EventCarriesOut s event.In block taken = ⊥
EventCarriesOut s (event.Setup packet) block taken = ⊥
EventCarriesOut s event.Tick block taken = ⊥

-- no command block is carried out
abbrev pub CarriesOutNone : (List ℕ → List ℕ → Type 0) → Type 0
CarriesOutNone CarriedOut = (block taken : List ℕ) → CarriedOut block taken → ⊥

-- an event has the unit do something
abbrev pub Acts : Conversation UnitState → Event → Type 0
Acts s (event.Out packet) =
    (block : List ℕ) × (taken : List ℕ) × EventCarriesOut s (event.Out packet) block taken
Acts s event.In = ⊥
Acts s (event.Setup packet) = ⊥
Acts s event.Tick = ⊤
