-- Transfers of a host: a command, its data in packets of some size, and what the host hears.
use Rattle.std.specs.Prelude.{⊤, ◌≡◌, ◌<◌, ◌⊎◌, ℕ, Bool, List, [], ◌∷◌, ◌++◌, length, map, All}
use Rattle.spec.specs.{declared.wrapper.Cbw.Cbw, declared.case.Endpoint.Endpoint}
use Rattle.scsi.specs.Rules.{UnitState}
use Rattle.spec.specs.{CommandWrapper.SpellsCommand, Cases.size_of_way}
use Rattle.spec.specs.{declared.event.Event.Event, declared.event.Answer.Answer, Packets.packets_of}
use Rattle.spec.specs.{Requests.{setup_packet, clear_halt}, Exchange.at_rest}
use Rattle.spec.specs.UnitConversation.{on_line, UnitRun}
use Rattle.spec.specs.declared.event.Event.TheVariants as event
use Rattle.spec.specs.declared.event.Answer.TheVariants as answer
use Rattle.transport_laws.specs.Striking.{IsUntroubled}

-- a command wrapper, and the bytes that the host sends after it: as many as it announces, or none
pub record Transfer : Type 0 where
  pub wrapper : List ℕ
  pub command : Cbw
  -- the wrapper spells the command
  pub spelled : SpellsCommand wrapper command
  pub sent : List ℕ
  pub announced : (sent ≡ []) ⊎ (length sent ≡ size_of_way command.host)

-- a packet to Bulk-Out
abbrev pub packet_out : List ℕ → Event
packet_out bytes = event.Out (record { items = bytes })

-- the host asks for what is sent: by a token to Bulk-In, or by the end of a halt
abbrev pub Asks : Event → Type 0
Asks (event.Out packet) = ⊥
Asks event.In = ⊤
Asks (event.Setup packet) =
    (endpoint : Endpoint) × (packet ≡ setup_packet (clear_halt endpoint))
Asks event.Tick = ⊥

-- the wrapper, the data in packets of this size, and then what asks
abbrev pub events_of : ℕ → Transfer → List Event → List Event
events_of size transfer asks =
    packet_out transfer.wrapper ∷ (map packet_out (packets_of size transfer.sent) ++ asks)

-- the packets of Bulk-In
abbrev pub packets_in : List Answer → List (List ℕ)
packets_in [] = []
packets_in (answer.Ack ∷ answers) = packets_in answers
packets_in (answer.Nak ∷ answers) = packets_in answers
packets_in (answer.Stall ∷ answers) = packets_in answers
packets_in (answer.Data packet ∷ answers) = packet.items ∷ packets_in answers
packets_in (answer.Byte byte ∷ answers) = packets_in answers
packets_in (answer.Two bytes ∷ answers) = packets_in answers
packets_in (answer.Ticked ∷ answers) = packets_in answers
packets_in (answer.Off ∷ answers) = packets_in answers

-- what a host hears: data, and a status wrapper
pub record Heard : Type 0 where
  pub bytes : List ℕ
  pub status : List ℕ

-- the status wrapper is the last packet
abbrev pub status_in : List (List ℕ) → List ℕ
status_in [] = []
status_in (packet ∷ []) = packet
status_in (packet ∷ next ∷ packets) = status_in (next ∷ packets)

-- the data is the bytes of those before it
abbrev pub data_in : List (List ℕ) → List ℕ
data_in [] = []
data_in (packet ∷ []) = []
data_in (packet ∷ next ∷ packets) = packet ++ data_in (next ∷ packets)

abbrev pub heard_in : List Answer → Heard
heard_in answers = record {
  bytes = data_in (packets_in answers);
  status = status_in (packets_in answers);
}

-- A transfer in packets of this size, from one state of the unit to another: the host asks until
-- the status has come and nothing is halted. The medium refuses nothing, and stamps are left.
pub record IsTransferred (size : ℕ) (transfer : Transfer) (old new : UnitState) (heard : Heard)
    : Type 0 where
  -- the host asks by these events
  pub asks : List Event
  pub only : All Asks asks
  pub answers : List Answer
  pub refusals : List Bool
  pub run : UnitRun (on_line (at_rest size) old) (events_of size transfer asks) answers refusals
      (on_line (at_rest size) new)
  pub untroubled : IsUntroubled (on_line (at_rest size) old) (events_of size transfer asks) answers
      refusals (on_line (at_rest size) new) run
  pub heard_is : heard ≡ heard_in answers

-- transfers, one after the other
abbrev pub AreTransferred : ℕ → List Transfer → UnitState → UnitState → List Heard → Type 0
AreTransferred size [] old new [] = new ≡ old
AreTransferred size (transfer ∷ transfers) old new (heard ∷ more) =
    (mid : UnitState) × IsTransferred size transfer old mid heard
    × AreTransferred size transfers mid new more
AreTransferred size transfers old new heard = ⊥

-- Whatever the size of a packet, the same transfers leave the unit in the same state, its book too,
-- and the host hears the same data and the same status wrappers.
abbrev pub SizesAreAlike : Type 0
SizesAreAlike = (size other : ℕ) → 0 < size → 0 < other
    → (transfers : List Transfer) (old new last : UnitState) (heard again : List Heard)
    → AreTransferred size transfers old new heard → AreTransferred other transfers old last again
    → (new ≡ last) × (heard ≡ again)
