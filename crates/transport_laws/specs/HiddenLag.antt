-- A host cannot tell a disk whose device is behind from one that acts on each packet at once.
use Rattle.std.specs.Prelude.{◌≡◌, ◌≤◌, ℕ, Bool, List, [], ◌∷◌}
use Rattle.scsi.specs.Rules.{UnitState, CarriesOut, Ticks}
use Rattle.spec.specs.declared.event.Event.{Event}
use Rattle.spec.specs.declared.event.Answer.{Answer}
use Rattle.spec.specs.declared.event.Event.TheVariants as event
use Rattle.spec.specs.declared.event.Answer.TheVariants as answer
use Rattle.spec.specs.Conversation.{Conversation, refused_events}
use Rattle.spec.specs.UnitConversation.{Intends, UnitRun}
use Rattle.spec.specs.Lagging.{Lagging, settled, LagRun}
use Rattle.transport_laws.specs.Transfers.{packets_in}

-- events by the rules of the unit, in which no class reset comes while a packet is pending
abbrev pub DropsNone : Conversation UnitState → List ℕ → UnitState → Type 0
DropsNone old packet new = ⊥

abbrev pub UndroppedRun : Lagging UnitState → List Event → List Answer → List Bool
    → Lagging UnitState → Type 0
UndroppedRun old events answers refusals new =
    LagRun Intends CarriesOut Ticks DropsNone old events answers refusals new

-- what came of a token or a packet
pub record Transaction : Type 0 where
  pub packet : List ℕ
  pub answer : Answer

-- a token or a packet that was answered NAK is sent again: nothing came of it
abbrev pub with_transaction : List ℕ → Answer → List Transaction → List Transaction
with_transaction packet answer.Nak later = later
with_transaction packet answered later = record { packet = packet; answer = answered } ∷ later

-- what came of the packets to Bulk-Out
abbrev pub outs : List Event → List Answer → List Transaction
outs (event.Out packet ∷ events) (answer ∷ answers) =
    with_transaction packet.items answer (outs events answers)
outs (event.In ∷ events) (answer ∷ answers) = outs events answers
outs (event.Setup packet ∷ events) (answer ∷ answers) = outs events answers
outs (event.Tick ∷ events) (answer ∷ answers) = outs events answers
outs events answers = []

-- what came of the tokens to Bulk-In
abbrev pub ins : List Event → List Answer → List Transaction
ins (event.Out packet ∷ events) (answer ∷ answers) = ins events answers
ins (event.In ∷ events) (answer ∷ answers) = with_transaction [] answer (ins events answers)
ins (event.Setup packet ∷ events) (answer ∷ answers) = ins events answers
ins (event.Tick ∷ events) (answer ∷ answers) = ins events answers
ins events answers = []

-- what came of the control requests
abbrev pub setups : List Event → List Answer → List Transaction
setups (event.Out packet ∷ events) (answer ∷ answers) = setups events answers
setups (event.In ∷ events) (answer ∷ answers) = setups events answers
setups (event.Setup packet ∷ events) (answer ∷ answers) =
    with_transaction packet answer (setups events answers)
setups (event.Tick ∷ events) (answer ∷ answers) = setups events answers
setups events answers = []

-- A run of a disk that acts on each packet at once, in which the same came of all tokens, packets
-- and requests, and no event more has a refused call.
pub record HiddenRun (old new : Conversation UnitState) (events : List Event)
    (answers : List Answer) (refusals : List Bool) : Type 0 where
  pub plain : List Event
  pub reported : List Answer
  pub refused : List Bool
  pub run : UnitRun old plain reported refused new
  pub same_outs : outs plain reported ≡ outs events answers
  pub same_ins : ins plain reported ≡ ins events answers
  pub same_setups : setups plain reported ≡ setups events answers
  pub same_packets : packets_in reported ≡ packets_in answers
  pub few : refused_events refused ≤ refused_events refusals

-- each run from a settled conversation to a settled one in which no packet is dropped is hidden
abbrev pub LagsAreHidden : Type 0
LagsAreHidden = (old new : Conversation UnitState) (events : List Event) (answers : List Answer)
    (refusals : List Bool) → UndroppedRun (settled old) events answers refusals (settled new)
    → HiddenRun old new events answers refusals
