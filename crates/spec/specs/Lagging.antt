-- The conversation of a host and a disk whose device is behind. A packet to Bulk-Out is
-- acknowledged at once, and its event is over once the device has done what the packet asks for.
-- Meanwhile the line is as it was before the packet, and each further packet waits.
use Rattle.std.specs.Prelude.{⊤, ◌≡◌, ◌≢◌, ◌⊎◌, ℕ, Bool, true, false, List, [], ◌∷◌, Option}
use Rattle.std.specs.Prelude.{Some, None, Result}
use Rattle.spec.specs.declared.way.Way.{Way}
use Rattle.spec.specs.declared.event.Event.{Event}
use Rattle.spec.specs.declared.event.Answer.{Answer}
use Rattle.spec.specs.declared.event.Answer.TheVariants.{Ack, Nak, Ticked}
use Rattle.spec.specs.Requests.{setup_packet, mass_storage_reset}
use Rattle.spec.specs.Exchange.{Script, finished, taking, sending, after_request}
use Rattle.spec.specs.Conversation.{Conversation, Step, OutStep}
use Rattle.logical_blocks.specs.Blocks.{Write}
use Rattle.logical_blocks.specs.Book.{with_progress}
use Rattle.scsi.specs.Rules.{UnitState, CarriesOut, Ticks}
use Rattle.spec.specs.UnitConversation.{Intends, write_of_packet}
use Rattle.spec.specs.declared.event.Event.TheVariants as event

-- a conversation, and the packet to Bulk-Out that was acknowledged and has still to be acted on
pub record Lagging (S : Type 0) : Type 0 where
  pub now : Conversation S
  pub pending : Option (List ℕ)

-- nothing is pending
abbrev pub settled : {S : Type 0} → Conversation S → Lagging S
settled now = record { now = now; pending = None }

-- a packet to Bulk-Out, which is halted or not, is acknowledged whatever it is
abbrev pub AcknowledgesAny : Bool → Script → Type 0
AcknowledgesAny true left = ⊥
AcknowledgesAny false finished = ⊤
AcknowledgesAny false (taking case command intended bytes due) = ⊤
AcknowledgesAny false (sending packets halt status) = ⊥

-- The rules of the unit, and what a class reset may leave of it that comes while a packet is
-- pending.
module _ {S F : Type 0} (Intends : S → List ℕ → Way → Type 0)
    (CarriesOut : Bool → List ℕ → List ℕ → S → Result (List ℕ) F → S → Type 0)
    (Ticks : Bool → S → S → Type 0) (Drops : Conversation S → List ℕ → S → Type 0)
    (refused : Bool) where
  -- an event as of a disk whose device is not behind; what is pending stays
  pub record PlainStep (happens : Event) (old : Lagging S) (answer : Answer) (new : Lagging S)
      : Type 0 where
    pub step : Step Intends CarriesOut Ticks refused old.now happens answer new.now
    pub pending : new.pending ≡ old.pending

  -- a packet is acknowledged, and the device has to work for it
  pub record PacketDeferred (packet : List ℕ) (old : Lagging S) (answer : Answer) (new : Lagging S)
      : Type 0 where
    pub acknowledged : AcknowledgesAny old.now.line.out_halted old.now.line.left
    pub answered : answer ≡ Ack
    pub after : new ≡ record { now = old.now; pending = Some packet }

  -- the device has done it: the packet is acted on, as if it came in this step
  pub record PacketCompleted (packet : List ℕ) (old : Lagging S) (answer : Answer) (new : Lagging S)
      : Type 0 where
    pub answered : answer ≡ Ticked
    pub step : OutStep Intends CarriesOut Ticks refused old.now.line.out_halted old.now.line.left
        packet old.now Ack new.now
    pub after : new.pending ≡ None

  -- a class reset drops the packet, and what was done for it may stay
  pub record PacketDropped (packet setup : List ℕ) (old : Lagging S) (answer : Answer)
      (new : Lagging S) : Type 0 where
    pub spelled : setup ≡ setup_packet mass_storage_reset
    pub answered : answer ≡ Ack
    pub line : new.now.line ≡ after_request mass_storage_reset old.now.line
    pub unit : Drops old.now packet new.now.unit
    pub after : new.pending ≡ None

  -- an event where this is pending
  abbrev pub LagStepAt : Option (List ℕ) → Lagging S → Event → Answer → Lagging S → Type 0
  LagStepAt None old (event.Out packet) answer new =
      PlainStep (event.Out packet) old answer new ⊎ PacketDeferred packet.items old answer new
  LagStepAt None old event.In answer new = PlainStep event.In old answer new
  LagStepAt None old (event.Setup setup) answer new = PlainStep (event.Setup setup) old answer new
  LagStepAt None old event.Tick answer new = PlainStep event.Tick old answer new
  LagStepAt (Some packet) old (event.Out other) answer new = (answer ≡ Nak) × (new ≡ old)
  LagStepAt (Some packet) old event.In answer new = PlainStep event.In old answer new
  LagStepAt (Some packet) old (event.Setup setup) answer new =
      ((setup ≢ setup_packet mass_storage_reset) × PlainStep (event.Setup setup) old answer new)
      ⊎ PacketDropped packet setup old answer new
  LagStepAt (Some packet) old event.Tick answer new =
      PlainStep event.Tick old answer new ⊎ PacketCompleted packet old answer new

  abbrev pub LagStep : Lagging S → Event → Answer → Lagging S → Type 0
  LagStep old happens answer new = LagStepAt old.pending old happens answer new

module _ {S F : Type 0} (Intends : S → List ℕ → Way → Type 0)
    (CarriesOut : Bool → List ℕ → List ℕ → S → Result (List ℕ) F → S → Type 0)
    (Ticks : Bool → S → S → Type 0) (Drops : Conversation S → List ℕ → S → Type 0) where
  -- events and their answers, in order; the truth values say in which the medium refused a call
  abbrev pub LagRun : Lagging S → List Event → List Answer → List Bool → Lagging S → Type 0
  LagRun old [] [] [] new = new ≡ old
  LagRun old (happens ∷ events) (answer ∷ answers) (refused ∷ refusals) new =
      (mid : Lagging S) × LagStep Intends CarriesOut Ticks Drops refused old happens answer mid
      × LagRun mid events answers refusals new
  LagRun _ _ _ _ _ = ⊥

-- the write of the command whose last bytes a packet has
abbrev pub write_of_pending : Conversation UnitState → List ℕ → Option Write
write_of_pending s packet =
    write_of_packet s.line.packet_size s.line.out_halted s.line.left packet s.unit

-- What a class reset leaves of the unit: its write is the last one accepted, whole, or is not
-- accepted. It is not promised, and nothing else changes.
abbrev pub Drops : Conversation UnitState → List ℕ → UnitState → Type 0
Drops old packet new =
    (new ≡ old.unit)
    ⊎ (new ≡ record old.unit { book = with_progress old.unit.book (write_of_pending old packet) })

-- one event by the rules of the unit, where its device is behind
abbrev pub UnitLagStep : Bool → Lagging UnitState → Event → Answer → Lagging UnitState → Type 0
UnitLagStep refused old happens answer new =
    LagStep Intends CarriesOut Ticks Drops refused old happens answer new

-- events by the rules of the unit, where its device is behind
abbrev pub UnitLagRun : Lagging UnitState → List Event → List Answer → List Bool
    → Lagging UnitState → Type 0
UnitLagRun old events answers refusals new =
    LagRun Intends CarriesOut Ticks Drops old events answers refusals new
